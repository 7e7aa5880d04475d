use Rattle.std.proofs.Common.{◌≡◌, ◌+◌, ◌-◌, ◌<◌, ◌≤◌, sym, ap, ◌∙◌, subst, arith, length, true, ℕ}
use Rattle.sim_base.specs.Clones.{clone_at}
use Rattle.clone_sets.specs.Sets.{has}
use Rattle.net_model.specs.Net.{HasStation}
use Rattle.stations.specs.Runs.{simulation}
use Rattle.run_laws.specs.Runs.{log_at}
use Rattle.phys_proc.specs.Own.{StationCopy}
use Rattle.station_steps.proofs.Places.{got_at}
use Rattle.world_core.specs.Worlds.{WorldView}
use Rattle.world_core.proofs.LikeCopies.{like_copy, none_has}
use Rattle.world_core.proofs.Merging.{alike_is_in, has_a_copy, log_is, log_short}
use Rattle.world_core.proofs.Windowed.{unboxed}
use Rattle.world_core.proofs.world.World.copy.Goals as goal

pub unreachable-requires : goal.unreachable-requires
unreachable-requires c =
    let parts = c.deref-stations.result.now in
    let of = unboxed parts c.self.inside.stations.value c.self.inside.front c.args.self.now c.deref-stations.ensures
    c.self.invariant c.self.view_is in
    let w = c.self.inside in
    let procs = parts.procs.items in
    let i = c.args.station - 1 in
    let p = c.index.result.now in
    let there = subst (λ (w : WorldView). c.args.who < length w.clones) (sym of.1) c.requires.in_range in
    let is = subst (λ (w : WorldView). HasStation w.net c.args.station) (sym of.1) c.requires.is_station in
    let many = of.0.count in
    let got = got_at procs i p (omega (arith, is.low, is.high, many)) c.index.ensures in
    has_a_copy parts.model.value parts.lists.clones parts.ends w.front procs of.0
    c.args.who there i p got
    (none_has c.copies.result.now p.copies c.copies.ensures.same c.args.who c.in-None.ensures.none)

pub returns-clause-is_in : goal.returns-clause-is_in
returns-clause-is_in c = c.in-Some.ensures.some.is_in

pub returns-clause-log : goal.returns-clause-log
returns-clause-log c =
    let parts = c.deref-stations.result.now in
    let of = unboxed parts c.self.inside.stations.value c.self.inside.front c.args.self.now c.deref-stations.ensures
    c.self.invariant c.self.view_is in
    let w = c.self.inside in
    let procs = parts.procs.items in
    let i = c.args.station - 1 in
    let p = c.index.result.now in
    let copy = c.in-Some.copy.now in
    let is = subst (λ (w : WorldView). HasStation w.net c.args.station) (sym of.1) c.requires.is_station in
    let many = of.0.count in
    let got = got_at procs i p (omega (arith, is.low, is.high, many)) c.index.ensures in
    let like = like_copy c.copies.result.now p.copies c.copies.ensures.same c.args.who copy c.in-Some.ensures.some in
    let found = like.found in
    let same : i + 1 ≡ c.args.station = omega (arith, is.low) in
    subst (λ (w : WorldView). (d : ℕ) → has copy.set d ≡ true → copy.log ≡ log_at (simulation w.net)
    (clone_at w.clones d) c.args.station w.front) of.1 (λ d is_in. ap (λ (a : StationCopy). a.log) like.same
    ∙ log_is parts.model.value parts.lists.clones parts.ends w.front procs of.0 i p
    like.like d got found.is_copy
    (subst (λ (a : StationCopy). has a.set d ≡ true) like.same is_in)
    ∙ ap (λ s. log_at (simulation parts.model.value) (clone_at parts.lists.clones d) s w.front) same)

pub returns-clause-length_max : goal.returns-clause-length_max
returns-clause-length_max c =
    let parts = c.deref-stations.result.now in
    let of = unboxed parts c.self.inside.stations.value c.self.inside.front c.args.self.now c.deref-stations.ensures
    c.self.invariant c.self.view_is in
    let w = c.self.inside in
    let procs = parts.procs.items in
    let i = c.args.station - 1 in
    let p = c.index.result.now in
    let copy = c.in-Some.copy.now in
    let is = subst (λ (w : WorldView). HasStation w.net c.args.station) (sym of.1) c.requires.is_station in
    let many = of.0.count in
    let got = got_at procs i p (omega (arith, is.low, is.high, many)) c.index.ensures in
    let like = like_copy c.copies.result.now p.copies c.copies.ensures.same c.args.who copy c.in-Some.ensures.some in
    let found = like.found in
    subst (λ (w : WorldView). length copy.log ≤ w.net.limit) of.1
    (subst (λ (a : StationCopy). length a.log ≤ parts.model.value.limit) (sym like.same)
    (log_short parts.model.value parts.lists.clones parts.ends w.front procs of.0 i p
    like.like got found.is_copy))

pub returns-clause-alike : goal.returns-clause-alike
returns-clause-alike c =
    let parts = c.deref-stations.result.now in
    let of = unboxed parts c.self.inside.stations.value c.self.inside.front c.args.self.now c.deref-stations.ensures
    c.self.invariant c.self.view_is in
    let w = c.self.inside in
    let procs = parts.procs.items in
    let i = c.args.station - 1 in
    let p = c.index.result.now in
    let copy = c.in-Some.copy.now in
    let is = subst (λ (w : WorldView). HasStation w.net c.args.station) (sym of.1) c.requires.is_station in
    let many = of.0.count in
    let got = got_at procs i p (omega (arith, is.low, is.high, many)) c.index.ensures in
    let like = like_copy c.copies.result.now p.copies c.copies.ensures.same c.args.who copy c.in-Some.ensures.some in
    let found = like.found in
    let same : i + 1 ≡ c.args.station = omega (arith, is.low) in
    subst (λ (w : WorldView). (d : ℕ) → d < length w.clones
    → log_at (simulation w.net) (clone_at w.clones d) c.args.station w.front
    ≡ log_at (simulation w.net) (clone_at w.clones c.args.who) c.args.station w.front → has copy.set d ≡ true)
    of.1 (λ d l e. subst (λ (a : StationCopy). has a.set d ≡ true) (sym like.same)
    (alike_is_in parts.model.value parts.lists.clones parts.ends w.front procs of.0 i p
    like.like c.args.who d got
    found.is_copy found.is_in l
    (subst (λ s. log_at (simulation parts.model.value) (clone_at parts.lists.clones d) s w.front
    ≡ log_at (simulation parts.model.value) (clone_at parts.lists.clones c.args.who) s w.front) (sym same)
    e)))
