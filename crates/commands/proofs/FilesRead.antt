-- Files that are read: they stay, one that is told is an index of one collection only, and memory may be refused right behind them.
use Rattle.std.proofs.Common.{arith, ◌≡◌, refl, sym, ◌∙◌, ap, ℕ, List, [], inr, IsTrue, Err}
use Rattle.std.specs.Prelude.{unwrap_or}
use Rattle.commands.proofs.Names.{Collection, Format, numbers_of, Slot, DepotState, OnlyReads, bytes_under, ListParts, file_words, OneIndex, WordsAreRead, fits-file, NoMemory, Outcome, done, IndexView, IsLoaded, second, Source, IsRead, IsUnread, still_read, FindsIndex, FindsIndexOf}

-- files stay while others are read
pub bytes_stay : {slots : Slot → Type 0} {old mid : DepotState} (name : List ℕ) → OnlyReads slots old mid → IsTrue old.tells → bytes_under mid name ≡ bytes_under old name
bytes_stay name reads t = ap (λ file. unwrap_or file []) (reads.files t name)

-- no memory was refused where an index was loaded
pub same_refusals : {name : List ℕ} {d d' : DepotState} {index : IndexView} → IsLoaded name d d' index → d'.refusals ≡ d.refusals
same_refusals w = second (w.starts done).refusals (λ h. let bad : ◌≡◌ {A = Outcome} done (Err NoMemory) = h in cc)

-- memory was refused behind the reading of a source
pub wanted : (source : Source) {d d1 : DepotState} → IsRead source d d1 → IsUnread source d d1 (Err NoMemory)
wanted source {d} {d1} read = record { ends = inr refl; refuses = read.refuses (Err NoMemory); still = still_read source d d1 read (Err NoMemory) refl (read.starts (Err NoMemory) refl) }

module _ (one : OneIndex) (read : WordsAreRead) (name : List ℕ) (d : DepotState) (t : IsTrue d.tells) where
  pub same_view : (v w : Format) (c e : Collection) (p q : List ListParts) → FindsIndex (numbers_of v) name d c p → FindsIndex (numbers_of w) name d e q
      → (v ≡ w) × (c ≡ e) × (p ≡ q)
  same_view v w c e p q f g =
      let words : List ℕ = file_words (numbers_of v) c p in
      let x = f.bytes t in
      let y = g.bytes t in
      let fits = fits-file (numbers_of v) c p f.within in
      let fit = fits-file (numbers_of w) e q g.within in
      let same : words ≡ file_words (numbers_of w) e q = read words (file_words (numbers_of w) e q) x.fit y.fit (sym x.bytes_are ∙ y.bytes_are) in
      one v w words c e p q (grind arith) (grind arith)

  pub same_index : (c e : Collection) → FindsIndexOf name d c → FindsIndexOf name d e → c ≡ e
  same_index c e f g = (same_view f.0 g.0 c e f.1 g.1 f.2 g.2).1
