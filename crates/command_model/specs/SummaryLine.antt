use Rattle.std.specs.Prelude.{ℕ, List, ◌++◌, codes, length, sum}
use Rattle.part_cost.specs.declared.kinds.Kind.TheVariants.{Ones, Bitmap, Ef}
use Rattle.part_cost.specs.Formats.{numbers_of}
use Rattle.index_file.specs.IndexView.{IndexView, parts_of_kind, payload_bits, postings_count, word_count}
use Rattle.serde_json.specs.Written.{compact_text}
use Rattle.pef_report.specs.declared.counts.Counts.{Counts}
use Rattle.pef_report.specs.Summary.{summary_of}

-- what an index is summed up by
abbrev pub counts_of : IndexView → Counts
counts_of i = record {
  bitmap_parts = parts_of_kind i Bitmap;
  documents = i.collection.documents;
  ef_parts = parts_of_kind i Ef;
  ones_parts = parts_of_kind i Ones;
  payload_bits = payload_bits i;
  postings = postings_count i;
  size_total = sum i.collection.sizes;
  terms = length i.collection.lists;
  version = (numbers_of i.format).version;
  words = word_count i;
}

-- the line that sums an index up: its counts as JSON without spaces, and a newline
unfoldable pub summary_line : IndexView → List ℕ
summary_line i = compact_text (summary_of (counts_of i)) ++ codes "\n"
