use Rattle.std.proofs.Common.{arith, ◌≡◌, ◌∙◌, ◌+◌, ◌-◌, ◌^◌, ◌≤◌, min, ℕ, Bool, true, false, refl, sym, ap, Decides, ◌&&◌, nat_eq}
use Rattle.std.proofs.lemmas.Bool.Decides.{Decides-eqb}
use Rattle.io_traits.proofs.Slots.{slot_eq}
use Rattle.memory_io.specs.declared.calls.Op.{Op}
use Rattle.io_traits.specs.Calls.{one_more}
use Rattle.memory_io.specs.declared.calls.Op.TheVariants.{Start, Read, Create, Write, Finish}
use Rattle.memory_io.specs.contracts.calls.OpPartialEq.TheImpl as op

-- a number of 64 bits that is raised by one, where it can be
pub one_more-min : (raised n : ℕ) → raised ≡ min (n + 1) (2 ^ 64 - 1) → n ≤ 2 ^ 64 - 1 → raised ≡ one_more n
one_more-min raised n e fits = omega (arith, e, fits)

-- `==` of kinds of call is equality
pub op_eq : (a b : Op) → Decides (op.ghosts.eq a b) (a ≡ b)
op_eq a b = (same a b, λ e. ap (op.ghosts.eq a) (sym e) ∙ itself a)
  where
    same : (a b : Op) → op.ghosts.eq a b ≡ true → a ≡ b
    same (Start s) (Start t) e = ap Start ((slot_eq s t).0 e)
    same (Read s) (Read t) e = ap Read ((slot_eq s t).0 e)
    same Create Create e = refl
    same Write Write e = refl
    same Finish Finish e = refl
    same a b e = cc

    itself : (a : Op) → op.ghosts.eq a a ≡ true
    itself (Start s) = (slot_eq s s).1 refl
    itself (Read s) = (slot_eq s s).1 refl
    itself Create = refl
    itself Write = refl
    itself Finish = refl

-- `==` of numbered calls is equality
pub numbered_eq : (a b : Op × ℕ) → Decides (op.ghosts.eq a.0 b.0 && nat_eq a.1 b.1) (a ≡ b)
numbered_eq (o, m) (p, n) = both (op.ghosts.eq o p) (nat_eq m n) (op_eq o p) (Decides-eqb m n)
  where
    pair_of : o ≡ p → m ≡ n → ◌≡◌ {A = Op × ℕ} (o, m) (p, n)
    pair_of e f = cc

    both : (s t : Bool) → Decides s (o ≡ p) → Decides t (m ≡ n) → Decides (s && t) (◌≡◌ {A = Op × ℕ} (o, m) (p, n))
    both true t h k = (λ e. pair_of (h.0 refl) (k.0 e), λ e. k.1 (ap (λ x. x.1) e))
    both false t h k = (λ e. cc, λ e. h.1 (ap (λ x. x.0) e))
