-- A window is a step from one front to the next.
use Rattle.std.proofs.Common.{◌≡◌, ℕ, ◌+◌, ◌<◌, ◌≤◌, List, sym, subst, arith, length}
use Rattle.std.specs.List.{All}
use Rattle.sim_base.specs.Clones.{Clone}
use Rattle.net_model.specs.Net.{Net}
use Rattle.stations.specs.Runs.{simulation, next_front}
use Rattle.stations.proofs.GoodLaws.{lawful-stations}
use Rattle.run_laws.specs.Fronts.{least}
use Rattle.run_laws.proofs.NextFronts.{window_end-within}
use Rattle.phys_proc.specs.Procs.{ProcView}
use Rattle.station_steps.specs.Windows.{AreBounds, AreStations}
use Rattle.link_laws.proofs.WindowRounds.{window_is_round}
use Rattle.world_core.specs.Cuts.{HasSteppedTo, IsStepTo}
use Rattle.world_core.specs.Overs.{IsFault, NoneBeyond, NoneBeyondAt}
use Rattle.world_core.specs.Worlds.{WorldStands, WorldView, total_handled}
use Rattle.world_core.specs.declared.advancing.Stations.{Stations}
use Rattle.world_core.specs.declared.world.WorldFault.{WorldFault}
use Rattle.world_core.proofs.Worlds.{cut_of_world, world_of_cut}

-- no log is beyond the limit at a front
none_beyond_front : (net : Net) (cs : List Clone) (front : ℕ) → NoneBeyondAt net cs (λ s. front) →
    NoneBeyond net cs front
none_beyond_front net cs front h c l s is = h s (record { low = is.0; high = is.1 }) c l

-- a world at these stations, of which others are a copy
pub unboxed : (y x : Stations) (front : ℕ) (w : WorldView) → y ≡ x →
    WorldStands x.model.value x.lists.clones x.ends front x.procs.items →
    ◌≡◌ {A = WorldView} (record { net = x.model.value; clones = x.lists.clones; front = front }) w →
    WorldStands y.model.value y.lists.clones y.ends front y.procs.items
    × (◌≡◌ {A = WorldView} (record { net = y.model.value; clones = y.lists.clones; front = front }) w)
unboxed y x front w e stands is = (
  subst (λ (z : Stations). WorldStands z.model.value z.lists.clones z.ends front z.procs.items) (sym e) stands,
  subst (λ (z : Stations). ◌≡◌ {A = WorldView} (record {
    net = z.model.value;
    clones = z.lists.clones;
    front = front;
  }) w) (sym e) is,
)

module _ (net : Net) (cs : List Clone) (ended : List (ℕ × ℕ)) (front bound : ℕ) (procs : List ProcView) (w : WorldView)
    (world : WorldStands net cs ended front procs)
    (is : ◌≡◌ {A = WorldView} (record { net = net; clones = cs; front = front }) w)
    (above : w.front < bound) (within : bound ≤ next_front w.net w.clones w.front)
    (bounds : List ℕ) (count : length bounds ≡ length procs) (same : All (λ b. b ≡ bound) bounds) where
  later : front < bound
  later = subst (λ (v : WorldView). v.front < bound) (sym is) above

  no_later : bound ≤ next_front net cs front
  no_later = subst (λ (v : WorldView). bound ≤ next_front v.net v.clones v.front) (sym is) within

  -- the bound is not past the horizon
  bound-within : bound ≤ net.horizon
  bound-within =
      let l = no_later in
      let h = window_end-within (simulation net) (least (simulation net) cs front) in omega (arith, l, h)

  -- the stations may be stepped to these bounds
  pub may_step : AreStations net procs × AreBounds net procs bounds
  may_step = (
    record {
      at_most = let n = world.count in let few = world.valid.at_most in omega (arith, n, few);
      procs_in_order = λ i p got. (world.each i p got).station;
    },
    record {
      count = count;
      time_max = λ i d l. let s = same i d l in let b = bound-within in omega (arith, s, b);
    },
  )

  -- the step to the bound
  pub window_is_step : IsStepTo net cs ended (λ s. front) (λ s. bound) bounds procs
  window_is_step = record {
    stands = cut_of_world net cs ended front procs world;
    round = window_is_round (lawful-stations net world.valid) cs front bound
        (record { later = let l = later in omega (arith, l); within = no_later });
    bounds_are = λ i l. same i 0 (omega (arith, l, count));
  }

  -- the world at the bound
  pub stands_after : (n : Net) (ds : List Clone) (es : List (ℕ × ℕ)) (old new : ℕ) (given : List ProcView) →
      n ≡ net → ds ≡ cs → es ≡ ended → HasSteppedTo net cs ended (λ s. front) (λ s. bound) old new given →
      WorldStands n ds es bound given
  stands_after n ds es old new given e f g h =
      subst (λ m. WorldStands m ds es bound given) (sym e)
      (subst (λ l. WorldStands net l es bound given) (sym f)
      (subst (λ l. WorldStands net cs l bound given) (sym g)
      (world_of_cut net cs ended bound given bound-within h.stands)))

  -- what the step says of the view
  pub seen_after : (old new : ℕ) (given : List ProcView) →
      HasSteppedTo net cs ended (λ s. front) (λ s. bound) old new given →
      (new + total_handled w.net w.clones w.front ≡ old + total_handled w.net w.clones bound)
      × NoneBeyond w.net w.clones bound
  seen_after old new given h = subst (λ (v : WorldView).
      (new + total_handled v.net v.clones v.front ≡ old + total_handled v.net v.clones bound)
      × NoneBeyond v.net v.clones bound) is (h.steps, none_beyond_front net cs bound h.length_max)

  -- and of a fault
  pub fault_after : (old new : ℕ) (e : WorldFault) → IsFault net cs front bound old new e →
      IsFault w.net w.clones w.front bound old new e
  fault_after old new e h = subst (λ (v : WorldView). IsFault v.net v.clones v.front bound old new e) is h
