use Rattle.std.proofs.Common.{lit≤}
use Rattle.part_cost.specs.declared.formats.Format.TheVariants.{Two}
use Rattle.part_cost.specs.Formats.{numbers_of}
use Rattle.collection_reader.proofs.Limits.{never-too_many}
use Rattle.collection_reader.proofs.laws.second_format_never_has_too_many_documents.Goals as goal

pub returns : goal.returns
returns c = never-too_many (numbers_of Two) (lit≤ tt)
