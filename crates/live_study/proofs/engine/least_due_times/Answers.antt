use Rattle.std.proofs.Common.{◌≡◌, ◌∙◌, ℕ, ◌+◌, ◌<◌, ◌≤◌, List, ◌++◌, ◌∷◌, [], Option, None, ap, ap₂, sym, arith}
use Rattle.std.proofs.Common.{get_or, length, take}
use Rattle.std.proofs.lemmas.List.{get_or-map, length-map, take_all, take_more}
use Rattle.std.proofs.lemmas.Option.{unwrap_or-slice_get}
use Rattle.sim_base.specs.Clones.{Clone, clone_at, nobody}
use Rattle.run_laws.specs.Fronts.{least_of}
use Rattle.stations.specs.Runs.{simulation}
use Rattle.decision_desk.specs.Leasts.{leasts_of}
use Rattle.world_core.specs.Worlds.{WorldView}
use Rattle.live_study.proofs.engine.least_due_times.Goals as goal

-- the least time of one clone more
least_more : (w : WorldView) (all next : List (Option ℕ)) (k : ℕ) (one : Option ℕ) → k < length w.clones
    → one ≡ least_of (simulation w.net) (clone_at w.clones k) w.front
    → all ≡ take k (leasts_of w.net w.clones w.front) → next ≡ all ++ one ∷ []
    → next ≡ take (k + 1) (leasts_of w.net w.clones w.front)
least_more w all next k one less is before more =
    let f = λ (c : Clone). least_of (simulation w.net) c w.front in
    let there : k < length (leasts_of w.net w.clones w.front) = omega (arith, less, length-map w.clones f) in
    let same : get_or (leasts_of w.net w.clones w.front) k None ≡ one =
    get_or-map f w.clones k nobody None less ∙ ap f (sym (unwrap_or-slice_get w.clones k nobody)) ∙ sym is in
    more ∙ ap₂ (λ xs x. xs ++ x ∷ []) before (sym same)
    ∙ sym (take_more (leasts_of w.net w.clones w.front) k None there)

-- the least times of as many clones as there are are those of all
all_leasts : (w : WorldView) (all : List (Option ℕ)) (k : ℕ) → length w.clones ≤ k
    → all ≡ take k (leasts_of w.net w.clones w.front) → all ≡ leasts_of w.net w.clones w.front
all_leasts w all k enough are =
    let f = λ (c : Clone). least_of (simulation w.net) c w.front in
    are ∙ take_all k (leasts_of w.net w.clones w.front) (omega (arith, enough, length-map w.clones f))

pub least_of-requires : goal.least_of-requires
least_of-requires c = record {
  in_range = omega (arith, c.loop-c-test.true, c.len-many.ensures.value, ap length c.lists.ensures.clones);
}

pub loop-c-preserved : goal.loop-c-preserved
loop-c-preserved c =
    least_more c.args.world.now c.loop-c.all.items c.push.new.self.items c.loop-c.c c.least_of.result
    (omega (arith, c.loop-c-test.true, c.len-many.ensures.value, ap length c.lists.ensures.clones))
    c.least_of.ensures.value c.loop-c.invariant c.in_ok-push.ensures.items

pub returns : goal.returns
returns c = record {
  value = all_leasts c.args.world.now c.loop-c.all.items c.loop-c.c
      (omega (arith, c.loop-c-test.false, c.len-many.ensures.value, ap length c.lists.ensures.clones))
      c.loop-c.invariant;
}
