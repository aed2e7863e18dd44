-- What a choice by a test gives, and how to show it.
use Rattle.std.proofs.Common.{◌≡◌, Bool, true, false}
use Rattle.std.specs.Prelude.{MatchBool}

pub unmatch : (b : Bool) (P Q : Type 0) → b ≡ false → MatchBool b P Q → Q
unmatch true P Q e h = cc
unmatch false P Q e h = h

pub match-true : (b : Bool) (P Q : Type 0) → b ≡ true → P → MatchBool b P Q
match-true true P Q e h = h
match-true false P Q e h = cc

pub match-false : (b : Bool) (P Q : Type 0) → b ≡ false → Q → MatchBool b P Q
match-false true P Q e h = cc
match-false false P Q e h = h
