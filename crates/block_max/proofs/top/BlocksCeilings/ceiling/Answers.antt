use Rattle.std.proofs.Common.{arith}
use Rattle.block_max.proofs.Ceilings.{freq-most, told-reaches, told-most, none-most}
use Rattle.block_max.proofs.top.BlocksCeilings.ceiling.Goals as goal

pub returns-then-len-self-clause-most : goal.returns-then-len-self-clause-most
returns-then-len-self-clause-most g c = λ d after within. let most = freq-most (g.C.DocCursor.list c.args.cursor.now) d in omega (arith, c.max_freq.ensures)

pub returns-in-Some-clause-reach : goal.returns-in-Some-clause-reach
returns-in-Some-clause-reach g c = told-reaches (g.C.BlockCursor.blocks c.args.cursor.now) c.args.doc c.in-Some.block c.in-Some.ensures

pub returns-in-Some-clause-most : goal.returns-in-Some-clause-most
returns-in-Some-clause-most g c =
    told-most (g.C.DocCursor.list c.args.cursor.now) (g.C.BlockCursor.blocks c.args.cursor.now) c.args.doc c.in-Some.block (g.met.C.BlockCursor.are_blocks c.args.cursor.now) c.in-Some.ensures

pub returns-in-None-clause-most : goal.returns-in-None-clause-most
returns-in-None-clause-most g c = λ d after within.
    none-most (g.C.DocCursor.list c.args.cursor.now) (g.C.BlockCursor.blocks c.args.cursor.now) c.args.doc (g.met.C.BlockCursor.are_blocks c.args.cursor.now) c.in-None.ensures d after
