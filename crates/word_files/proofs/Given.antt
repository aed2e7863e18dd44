-- How bytes that are given to a file go on: pieces that are written, and a rest that is held.
use Rattle.std.proofs.Common.{◌≡◌, sym, ap, ◌∙◌, subst, ℕ, List, [], ◌++◌, IsTrue, Result, Ok, Err, append_assoc, append-nil}
use Rattle.io_traits.specs.declared.fail.IoFail.{IoFail}
use Rattle.io_traits.specs.DepotState.{DepotState}
use Rattle.io_traits.specs.Helpers.{WritesAllToFile}
use Rattle.word_files.proofs.WrittenFile.{none-written, piece-written, piece-refused}
use Rattle.word_files.specs.Given.{Gives}

-- bytes are held behind those that were
pub more-held : (bytes held after : List ℕ) (a : DepotState) → after ≡ held ++ bytes → Gives bytes held after a a (Ok tt)
more-held bytes held after a is = ([], sym is, none-written a)

-- nothing is given
pub none-given : (held : List ℕ) (a : DepotState) → Gives [] held held a a (Ok tt)
none-given held a = ([], append-nil held, none-written a)

-- bytes behind others
pub given-then : (xs ys h k l : List ℕ) (a b c : DepotState) → Gives xs h k a b (Ok tt) → Gives ys k l b c (Ok tt) → Gives (xs ++ ys) h l a c (Ok tt)
given-then xs ys h k l a b c (v, p, w) (u, q, x) = (
  v ++ u,
  sym (append_assoc h xs ys) ∙ ap (λ zs. zs ++ ys) p ∙ append_assoc v k ys ∙ ap (λ zs. v ++ zs) q ∙ sym (append_assoc v u l),
  piece-written a b c v u w x,
)

-- they are refused, and what would have come behind them
pub given-refused : (all xs ys zs h k l m : List ℕ) (e : IoFail) (a b c : DepotState) → all ≡ xs ++ (ys ++ zs) → Gives xs h k a b (Ok tt) → Gives ys k l b c (Err e) → Gives all h m a c (Err e)
given-refused all xs ys zs h k l m e a b c is (v, p, w) x =
    piece-refused a b c v (k ++ ys) zs (h ++ all) e w x
    (ap (λ bs. h ++ bs) is ∙ sym (append_assoc h xs (ys ++ zs)) ∙ ap (λ bs. bs ++ (ys ++ zs)) p ∙ append_assoc v k (ys ++ zs) ∙ ap (λ bs. v ++ bs) (sym (append_assoc k ys zs)))

-- bytes behind others that were given, whether they are refused or not
pub given-both : (all xs ys h k l : List ℕ) (a b c : DepotState) (r : Result (Unit {0}) IoFail)
    → all ≡ xs ++ ys → Gives xs h k a b (Ok tt) → Gives ys k l b c r → Gives all h l a c r
given-both all xs ys h k l a b c (Ok u) is v w =
    let P : List ℕ → Type 0 = λ bs. Gives bs h l a c (Ok tt) in
    subst P (sym is) (given-then xs ys h k l a b c v w)
given-both all xs ys h k l a b c (Err e) is v w =
    given-refused all xs ys [] h k l l e a b c
    (is ∙ ap (λ bs. xs ++ bs) (sym (append-nil ys))) v w

-- the file stays the one that is being written
pub still-created : (xs h k : List ℕ) (a b : DepotState) → Gives xs h k a b (Ok tt) → IsTrue a.created → IsTrue b.created
still-created xs h k a b (v, p, w) t = w.writing.0 ∙ t

-- what was held is refused, with what would have come behind it
pub held-refused : (bytes held part m : List ℕ) (e : IoFail) (a b : DepotState) → part ≡ held → WritesAllToFile a b part (Err e) → Gives bytes held m a b (Err e)
held-refused bytes held part m e a b is w = piece-refused a a b [] part bytes (held ++ bytes) e (none-written a) w (ap (λ h. h ++ bytes) (sym is))

-- ---- a file whose bytes are given, by a writer that holds nothing at first

-- a prefix of them is written
pub given-in-part : (bytes h k : List ℕ) (e : IoFail) (a b : DepotState) → h ≡ [] → Gives bytes h k a b (Err e) → WritesAllToFile a b bytes (Err e)
given-in-part bytes h k e a b none v =
    let P : List ℕ → Type 0 = λ bs. WritesAllToFile a b bs (Err e) in
    subst P (ap (λ h. h ++ bytes) none) v

-- what was held at the end is not written
pub out-refused : (bytes h k : List ℕ) (e : IoFail) (a b c : DepotState) → h ≡ [] → Gives bytes h k a b (Ok tt) → WritesAllToFile b c k (Err e) → WritesAllToFile a c bytes (Err e)
out-refused bytes h k e a b c none (v, p, w) x =
    piece-refused a b c v k [] bytes e w x (sym (ap (λ h. h ++ bytes) none) ∙ p ∙ ap (λ bs. v ++ bs) (sym (append-nil k)))

-- all is written
pub out-written : (bytes h k : List ℕ) (a b c : DepotState) → h ≡ [] → Gives bytes h k a b (Ok tt) → WritesAllToFile b c k (Ok tt) → WritesAllToFile a c bytes (Ok tt)
out-written bytes h k a b c none (v, p, w) x =
    let P : List ℕ → Type 0 = λ bs. WritesAllToFile a c bs (Ok tt) in
    subst P (sym p ∙ ap (λ h. h ++ bytes) none) (piece-written a b c v k w x)
