use Rattle.std.specs.Prelude.{codes}
use Rattle.serde_json.specs.Data.{Data, number, unsigned, object, member, no_members}
use Rattle.pef_report.specs.declared.counts.Counts.{Counts}

-- the object of the counts, each under its name
abbrev pub summary_of : Counts → Data
summary_of c = object (
    member (codes "bitmap_parts") (number (unsigned c.bitmap_parts)) (
    member (codes "documents") (number (unsigned c.documents)) (
    member (codes "ef_parts") (number (unsigned c.ef_parts)) (
    member (codes "ones_parts") (number (unsigned c.ones_parts)) (
    member (codes "payload_bits") (number (unsigned c.payload_bits)) (
    member (codes "postings") (number (unsigned c.postings)) (
    member (codes "size_total") (number (unsigned c.size_total)) (
    member (codes "terms") (number (unsigned c.terms)) (
    member (codes "version") (number (unsigned c.version)) (
    member (codes "words") (number (unsigned c.words)) no_members))))))))))
