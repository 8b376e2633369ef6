use Rattle.std.proofs.Common.{◌≡◌, length}
use Rattle.ad_base.proofs.Taken.{Taken}
use Rattle.ad_base.proofs.sink.write_all.Given as goal

-- what was taken so far, and the rest, are the bytes; there was no fault
abbrev pub invariant-loop-rest : goal.invariant-loop-rest
invariant-loop-rest g l = record {
  taken : Taken (g.K.Sink.output l.initial.out).taken (g.K.Sink.output l.out).taken l.bytes l.rest;
  same : (g.K.Sink.output l.out).faults ≡ (g.K.Sink.output l.initial.out).faults;
}

abbrev pub decreases-loop-rest : goal.decreases-loop-rest
decreases-loop-rest g l = length l.rest
