use Rattle.query_text.specs.Lines.{fields}
use Rattle.query_text.proofs.Named.{parsed-named}
use Rattle.query_text.proofs.parsing.parse.Goals as goal

pub returns-clause-named : goal.returns-clause-named
returns-clause-named c = parsed-named c.args.terms c.fields_query.result (fields c.args.line.now) c.fields_query.ensures
