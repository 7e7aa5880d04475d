use Rattle.std.proofs.Common.{◌≡◌, ◌-◌, ◌≤◌, sym, ◌∙◌, subst, arith, length}
use Rattle.std.specs.List.{AllByRecursion}
use Rattle.sim_base.specs.declared.lists.TheConstants.{MAX_CLONES}
use Rattle.net_model.specs.Net.{HasStation}
use Rattle.net_model.specs.declared.limits.TheConstants.{MAX_LIMIT}
use Rattle.stations.specs.Runs.{copies, handled_once, handled_alone}
use Rattle.phys_proc.specs.Own.{StationCopy, but_pending, handled_alone_by}
use Rattle.sim_base.proofs.ListLaws.{all_map, all_of_map}
use Rattle.world_core.proofs.LikeCopies.{like_alone, like_length, like_sizes}
use Rattle.world_core.specs.Worlds.{WorldView}
use Rattle.station_steps.proofs.Places.{got_at}
use Rattle.world_core.proofs.DueTimes.{has_figures, all_short}
use Rattle.world_core.proofs.Windowed.{unboxed}
use Rattle.world_core.proofs.world.World.figures.Goals as goal

-- ---- alone_in

pub alone_in-requires-clause-length_max : goal.alone_in-requires-clause-length_max
alone_in-requires-clause-length_max c =
    let i = c.deref-stations.result.now in
    let of = unboxed i c.self.inside.stations.value c.self.inside.front c.args.self.now c.deref-stations.ensures
    c.self.invariant c.self.view_is in
    let procs = i.procs.items in
    let p = c.index-proc.result.now in
    let is = subst (λ (w : WorldView). HasStation w.net c.args.station) (sym of.1) c.requires.is_station in
    let many = of.0.count in
    let got = got_at procs (c.args.station - 1) p (omega (arith, is.low, is.high, many)) c.index-proc.ensures in
    let proc = (of.0.each (c.args.station - 1) p got).station.proc in
    let short = of.0.valid.limit_max in
    all_of_map (λ (a : StationCopy). length a.log ≤ MAX_LIMIT) but_pending c.copies-2.result.now
    (subst (AllByRecursion (λ (a : StationCopy). length a.log ≤ MAX_LIMIT)) (sym c.copies-2.ensures.same)
    (all_map (λ (a : StationCopy). length a.log ≤ MAX_LIMIT) but_pending p.copies
    (all_short i.model.value p.station p.copies (omega (arith, short)) proc.copies)))

pub alone_in-requires-clause-at_most : goal.alone_in-requires-clause-at_most
alone_in-requires-clause-at_most c =
    let i = c.deref-stations.result.now in
    let of = unboxed i c.self.inside.stations.value c.self.inside.front c.args.self.now c.deref-stations.ensures
    c.self.invariant c.self.view_is in
    let procs = i.procs.items in
    let p = c.index-proc.result.now in
    let is = subst (λ (w : WorldView). HasStation w.net c.args.station) (sym of.1) c.requires.is_station in
    let many = of.0.count in
    let got = got_at procs (c.args.station - 1) p (omega (arith, is.low, is.high, many)) c.index-proc.ensures in
    let f = has_figures i.model.value i.lists.clones
    i.ends c.self.inside.front
    procs of.0 c.args.station p is.low got in
    subst (λ n. n ≤ MAX_CLONES) (sym (like_sizes c.copies-2.result.now p.copies c.copies-2.ensures.same)) f.sizes

-- ---- the figures

pub returns-clause-copies : goal.returns-clause-copies
returns-clause-copies c =
    let i = c.deref-stations.result.now in
    let of = unboxed i c.self.inside.stations.value c.self.inside.front c.args.self.now c.deref-stations.ensures
    c.self.invariant c.self.view_is in
    let procs = i.procs.items in
    let p = c.index-proc.result.now in
    let is = subst (λ (w : WorldView). HasStation w.net c.args.station) (sym of.1) c.requires.is_station in
    let many = of.0.count in
    let got = got_at procs (c.args.station - 1) p (omega (arith, is.low, is.high, many)) c.index-proc.ensures in
    let f = has_figures i.model.value i.lists.clones
    i.ends c.self.inside.front
    procs of.0 c.args.station p is.low got in
    like_length c.copies.result.now p.copies c.copies.ensures.same
    ∙ subst (λ (w : WorldView). length p.copies ≡ copies w.net w.clones c.args.station w.front) of.1
    f.copies_are

pub returns-clause-handled : goal.returns-clause-handled
returns-clause-handled c =
    let i = c.deref-stations.result.now in
    let of = unboxed i c.self.inside.stations.value c.self.inside.front c.args.self.now c.deref-stations.ensures
    c.self.invariant c.self.view_is in
    let procs = i.procs.items in
    let p = c.index-proc.result.now in
    let is = subst (λ (w : WorldView). HasStation w.net c.args.station) (sym of.1) c.requires.is_station in
    let many = of.0.count in
    let got = got_at procs (c.args.station - 1) p (omega (arith, is.low, is.high, many)) c.index-proc.ensures in
    let f = has_figures i.model.value i.lists.clones
    i.ends c.self.inside.front
    procs of.0 c.args.station p is.low got in
    c.handled.ensures.value ∙ subst (λ (w : WorldView). p.handled ≡ handled_once w.net w.clones c.args.station w.front)
    of.1 f.once

pub returns-clause-alone : goal.returns-clause-alone
returns-clause-alone c =
    let i = c.deref-stations.result.now in
    let of = unboxed i c.self.inside.stations.value c.self.inside.front c.args.self.now c.deref-stations.ensures
    c.self.invariant c.self.view_is in
    let procs = i.procs.items in
    let p = c.index-proc.result.now in
    let is = subst (λ (w : WorldView). HasStation w.net c.args.station) (sym of.1) c.requires.is_station in
    let many = of.0.count in
    let got = got_at procs (c.args.station - 1) p (omega (arith, is.low, is.high, many)) c.index-proc.ensures in
    let f = has_figures i.model.value i.lists.clones
    i.ends c.self.inside.front
    procs of.0 c.args.station p is.low got in
    c.alone_in.ensures.value ∙ like_alone c.copies-2.result.now p.copies c.copies-2.ensures.same
    ∙ subst (λ (w : WorldView). handled_alone_by p.copies ≡ handled_alone w.net w.clones c.args.station w.front)
    of.1 f.each_alone
