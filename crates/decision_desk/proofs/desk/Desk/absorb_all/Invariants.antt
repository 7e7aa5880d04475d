use Rattle.std.proofs.Common.{◌≡◌, ◌+◌, ◌++◌, length, map}
use Rattle.decision_desk.proofs.desk.Desk.absorb_all.Given as goal

abbrev pub invariant-loop-pass : goal.invariant-loop-pass
invariant-loop-pass l = l.helm ≡ record l.initial.helm {
  parts = l.initial.helm.parts + length l.yielded;
  accounts = l.initial.helm.accounts ++ map (λ p. p.account) l.yielded;
}
