-- `graph::places::places_of` meets its contract.
use Rattle.graph.proofs.Filling.{Filling}
use Rattle.graph.proofs.places.places_of.Given as goal

abbrev pub invariant-loop-i : goal.invariant-loop-i
invariant-loop-i l = Filling l.file.bytes.now l.kind l.initial.places l.places l.found l.i
