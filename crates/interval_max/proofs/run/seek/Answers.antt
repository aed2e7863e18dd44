use Rattle.interval_max.proofs.Cursors.{moved-stands}
use Rattle.interval_max.proofs.run.seek.Goals as goal

pub returns-clause-stand : goal.returns-clause-stand
returns-clause-stand g c = moved-stands g.C.DocCursor.list g.C.DocCursor.place c.cursors_stand.ensures.next_geq c.args.first c.args.cursor.now c.next_geq.new.self (g.met.C.DocCursor.well_formed c.args.cursor.now) c.requires c.next_geq.ensures.list c.next_geq.ensures.place
