-- A view holds one list: what it holds is what its words say, place by place.
use Rattle.std.proofs.Common.{◌≡◌, ℕ, List, arith}
use Rattle.bit_words.specs.Bits.{bits_of}
use Rattle.bit_words.proofs.Value.{bits-bits_of, length-bits_of}
use Rattle.part_cost.specs.Payload.{low_width_of}
use Rattle.elias_fano.specs.declared.EfView.{EfView}
use Rattle.elias_fano.specs.EfView.{Holds}
use Rattle.elias_fano.proofs.Reading.{IsRead, read-held, held-read}
use Rattle.elias_fano.proofs.Scanning.{one_list-read}

-- what a view holds is read from its words
pub view-read : (q : ℕ) (v : EfView q) (ys : List ℕ) → Holds q v ys → IsRead (bits_of v.part.bits.words.now) v.part.place v.part.u v.part.m (low_width_of v.part.u v.part.m) q ys
view-read q v ys h = read-held (bits_of v.part.bits.words.now) v.part.place v.part.u v.part.m q ys (omega (arith, length-bits_of v.part.bits.words.now, v.part.placed)) h

pub read-view : (q : ℕ) (v : EfView q) (ys : List ℕ) → IsRead (bits_of v.part.bits.words.now) v.part.place v.part.u v.part.m (low_width_of v.part.u v.part.m) q ys → Holds q v ys
read-view q v ys h = held-read (bits_of v.part.bits.words.now) v.part.place v.part.u v.part.m q ys (bits-bits_of v.part.bits.words.now) h

pub one-list : (q : ℕ) (v : EfView q) (xs ys : List ℕ) → Holds q v xs → Holds q v ys → xs ≡ ys
one-list q v xs ys h g =
    one_list-read (bits_of v.part.bits.words.now) v.part.place v.part.u v.part.m (low_width_of v.part.u v.part.m) q xs ys (bits-bits_of v.part.bits.words.now) (view-read q v xs h) (view-read q v ys g)
