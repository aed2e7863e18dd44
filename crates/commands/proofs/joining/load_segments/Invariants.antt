use Rattle.std.proofs.Common.{take}
use Rattle.commands.proofs.Names.{texts, AreAccepted}
use Rattle.commands.proofs.joining.load_segments.Given as goal

abbrev pub invariant-loop-s : goal.invariant-loop-s
invariant-loop-s g l = AreAccepted l.fn.joining (take l.s (texts l.names)) l.joined (g.D.Depot.state l.fn.depot) (g.D.Depot.state l.depot) l.opened.items
