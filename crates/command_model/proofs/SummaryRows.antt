-- The line of an index, computed.
use Rattle.std.proofs.Common.{◌≡◌, refl, ℕ, List, [], ◌∷◌, ◌++◌}
use Rattle.std.specs.Prelude.{codes, decimal}
use Rattle.part_cost.specs.declared.formats.Format.TheVariants.{One}
use Rattle.part_cost.specs.declared.kinds.Kind.TheVariants.{Ones, Bitmap}
use Rattle.part_cost.specs.Payload.{payload, kind_of, ef_payload, bitmap_payload}
use Rattle.index_file.specs.IndexView.{IndexView, parts_of_kind, payload_bits, postings_count}
use Rattle.serde_json.specs.Written.{compact_text}
use Rattle.serde_json.proofs.OnLiterals.{serde_json_on_literals}
use Rattle.pef_report.specs.declared.counts.Counts.{Counts}
use Rattle.pef_report.specs.Summary.{summary_of}
use Rattle.command_model.specs.SummaryLine.{counts_of, summary_line}

-- a key with its number, and what follows
abbrev keyed : List ℕ → ℕ → List ℕ → List ℕ
keyed key n rest = key ++ (decimal n ++ rest)

-- the text of any counts: ten keys, each with its number
text-of :
    (c : Counts)
    → compact_text (summary_of c)
    ≡ keyed (codes "{\"bitmap_parts\":") c.bitmap_parts (
    keyed (codes ",\"documents\":") c.documents (
    keyed (codes ",\"ef_parts\":") c.ef_parts (
    keyed (codes ",\"ones_parts\":") c.ones_parts (
    keyed (codes ",\"payload_bits\":") c.payload_bits (
    keyed (codes ",\"postings\":") c.postings (
    keyed (codes ",\"size_total\":") c.size_total (
    keyed (codes ",\"terms\":") c.terms (
    keyed (codes ",\"version\":") c.version (
    keyed (codes ",\"words\":") c.words (
    codes "}"))))))))))
unfolding serde_json_on_literals
text-of c = refl

-- the line is that text and a newline
line-of : (i : IndexView) → summary_line i ≡ compact_text (summary_of (counts_of i)) ++ codes "\n"
unfolding summary_line
line-of i = refl

-- three documents and one list, whose documents are in two parts of one document, and its frequencies in one
abbrev cut : IndexView
cut = record {
  format = One;
  collection = record { documents = 3; lists = (record { doc = 0; freq = 1 } ∷ record { doc = 2; freq = 5 } ∷ []) ∷ []; sizes = 4 ∷ 0 ∷ 7 ∷ [] };
  parts = record { doc_ends = 1 ∷ 2 ∷ []; freq_ends = 2 ∷ [] } ∷ [];
  starts = [];
}

cut-bitmaps : parts_of_kind cut Bitmap ≡ 2
unfolding kind_of ef_payload bitmap_payload lib.Count.count_leading_zeros
cut-bitmaps = refl

cut-ones : parts_of_kind cut Ones ≡ 1
unfolding kind_of ef_payload bitmap_payload lib.Count.count_leading_zeros
cut-ones = refl

cut-bits : payload_bits cut ≡ 8
unfolding payload ef_payload bitmap_payload lib.Count.count_leading_zeros
cut-bits = refl

cut-postings : postings_count cut ≡ 2
cut-postings = refl
