-- What was prepared is what a run of the analysts asks for.
use Rattle.std.proofs.Common.{◌≡◌, ℕ, ◌+◌, ◌-◌, ◌<◌, ◌≤◌, List, [], ◌∷◌, length, map, Some, slice_get, get_or}
use Rattle.std.proofs.Common.{inl, sym, ap, ◌∙◌, arith, subst}
use Rattle.std.specs.List.{AllByRecursion}
use Rattle.std.proofs.lemmas.Option.{get_or_from_slice_get, slice_get-get_or, slice_get_within}
use Rattle.sim_base.specs.Reserved.{ReservedView}
use Rattle.sim_base.proofs.ListLaws.{all_at, all_weaker}
use Rattle.net_model.specs.Net.{Net}
use Rattle.decision_script.specs.Stating.{ScriptView}
use Rattle.decision_book.specs.Books.{BookView}
use Rattle.decision_book.specs.declared.call.TheConstants.{MAX_CALLS}
use Rattle.decision_desk.specs.Desks.{desk_id}
use Rattle.decision_desk.specs.Passes.{HelmView}
use Rattle.decision_desk.proofs.NewPasses.{new_passes_count}
use Rattle.phys_proc.specs.Racks.{RackView}
use Rattle.shelf.specs.Racks.{HasRack, MayOpen, latest}
use Rattle.shelf.proofs.Legals.{latest-all, AreShown-opening}
use Rattle.journal_text.specs.declared.looked.Looked.{Looked}
use Rattle.world_core.specs.Worlds.{WorldView}
use Rattle.decision_script.specs.declared.script.TheConstants.{MAX_ANALYSTS, MAX_ITEMS}
use Rattle.decision_desk.specs.declared.desk.TheConstants.{MAX_PARTS}
use Rattle.live_study.specs.declared.prepared.Prepared.{Prepared}
use Rattle.live_study.specs.Asking.{SeatedAnalyst, total_todo}
use Rattle.live_study.specs.Lives.{AreSeenLooks, IsAllAsked, all_looks, looks_made}
use Rattle.live_study.specs.Looks.{AreMadeLooks, HasRacks, IsRackOf, IsReadLook, NeverFall, look_of}
use Rattle.live_study.specs.Opening.{AreOpeningRacks, HasReservedFor, IsFresh, IsPrepared, IsRackNow, numbers_to}
use Rattle.live_study.specs.Scripts.{IsJournalOf, each_acts}
use Rattle.live_study.specs.Showing.{AreShownOf, HasLooked, HasReserved, MayAct, looks_to_make}
use Rattle.live_study.proofs.Begun.{all_ready, few_todo, journal_of_script, many_analysts}
use Rattle.live_study.proofs.Looking.{seen_of_script}

-- ---- the opening racks
-- a rack at an index of them is one of the world as it is
now_at : (w : WorldView) (many : ℕ) (racks : List RackView) (i : ℕ) (r : RackView) → AreOpeningRacks w many racks
    → slice_get racks i ≡ Some r → IsRackNow w r
now_at w many racks i r h e = subst (IsRackNow w) (get_or_from_slice_get racks i r r e)
    (all_at (IsRackNow w) racks i r h.now (slice_get_within racks i r e))

-- the opening racks of a world are such as a shelf may open with
racks_may_open : (w : WorldView) (many : ℕ) (racks : List RackView) → AreOpeningRacks w many racks → MayOpen racks
racks_may_open w many racks h = record {
  each = h.each;
  net = λ i j q r e f. (now_at w many racks j r h f).net ∙ sym (now_at w many racks i q h e).net;
}

-- each station has one
each_has_rack : (w : WorldView) (many : ℕ) (racks : List RackView) → AreOpeningRacks w many racks → (s : ℕ) → 1 ≤ s
    → s ≤ many → HasRack s racks
each_has_rack w many racks h s low high =
    let back : s - 1 + 1 ≡ s = omega (arith, low) in
    let less : s - 1 < length racks = omega (arith, low, high, h.many_is) in
    let first = slice_get_some racks (s - 1) less in (
      first.0,
      subst (λ n. latest n racks ≡ Some first.0) back
          (sym ((AreShown-opening racks h.each).each (s - 1) less) ∙ first.1),
    )
  where
    slice_get_some : (racks : List RackView) (i : ℕ) → i < length racks
        → (r : RackView) × (slice_get racks i ≡ Some r)
    slice_get_some [] i less = absurd (omega (arith, less))
    slice_get_some (r ∷ racks) i less =
        (get_or (r ∷ racks) i r, slice_get-get_or (r ∷ racks) i r less)

-- ---- the network, the world and the helm of what was prepared
-- the world that was prepared is of this network
world_net : (net : Net) (many : ℕ) (p : Prepared) → IsPrepared net many p → p.world.net ≡ net
world_net net many p h = ap (λ (w : WorldView). w.net) h.world

-- the helm that was prepared is of this network
pub helm_net : (net : Net) (many : ℕ) (p : Prepared) → IsPrepared net many p → p.helm.net ≡ net
helm_net net many p h = ap (λ (x : HelmView). x.net) h.helm

-- the racks that were prepared are such as a shelf may open with
pub may_begin : (net : Net) (many : ℕ) (p : Prepared) → IsPrepared net many p → MayOpen p.racks.items
may_begin net many p h = racks_may_open p.world (length net.sites) p.racks.items h.racks

-- each station of the network has one of the racks that were prepared
has_racks : (net : Net) (many : ℕ) (p : Prepared) → IsPrepared net many p → HasRacks net p.racks.items
has_racks net many p h s is = each_has_rack p.world (length net.sites) p.racks.items h.racks s is.low is.high

-- a pass for each analyst
pub many_passes : (net : Net) (many : ℕ) (p : Prepared) → IsPrepared net many p → length p.passes.items ≡ many
many_passes net many p h = ap length h.passes ∙ new_passes_count (desk_id p.desk) net many

-- the opening racks are what is published first
pub shown_first : (net : Net) (many : ℕ) (p : Prepared) (published : List RackView) → IsPrepared net many p
    → published ≡ p.racks.items → AreShownOf p.helm p.world published
shown_first net many p published h e = subst (AreShownOf p.helm p.world) (sym e) (record {
  racks = all_weaker (IsRackNow p.world) (IsRackOf p.helm.net p.helm.helm) p.racks.items (λ r k. record {
    net_is = k.net ∙ world_net net many p h ∙ sym (helm_net net many p h);
    at = inl (
      k.front ∙ ap (λ (w : WorldView). w.front) h.world,
      k.clones ∙ ap (λ (w : WorldView). w.clones) h.world,
    );
  }) h.racks.now;
  time_max = all_weaker (IsRackNow p.world) (λ (q : RackView). q.front ≤ p.world.front) p.racks.items
      (λ r k. omega (arith, k.front)) h.racks.now;
  has_rack = subst (λ (n : Net). HasRacks n p.racks.items) (sym (world_net net many p h)) (has_racks net many p h);
  last = λ at s low high.
      let own : s ≤ length net.sites = subst (λ (n : Net). s ≤ length n.sites) (world_net net many p h) high in
      let has = has_racks net many p h s (record { low = low; high = own }) in
      (has.0, has.1, (latest-all (IsRackNow p.world) s p.racks.items has.0 h.racks.now has.1).0.front);
})

-- ---- the analysts
-- the helm and the analysts' passes have all parts of the desk
pub all_parts : (net : Net) (many : ℕ) (p : Prepared) (seated : List SeatedAnalyst) → IsPrepared net many p
    → many ≤ MAX_ANALYSTS
    → map (λ (a : SeatedAnalyst). a.0.pass) seated ≡ p.passes.items → p.helm.parts + length seated ≡ MAX_PARTS
all_parts net many p seated h few are =
    let len = many_analysts (desk_id p.desk) net many p.passes.items seated are h.passes in
    let parts = ap (λ (x : HelmView). x.parts) h.helm in
    omega (arith, parts, len, few)

-- an analyst that has seen nothing has made no looks
none_made : (net : Net) (a : SeatedAnalyst) (opening : List RackView) → IsFresh opening a → HasRacks net opening
    → HasLooked net [] a × HasReserved a.0
none_made net a opening f there = (
  record {
    asked = ap (map look_of) f.quiet;
    read = subst (AllByRecursion (IsReadLook net a.1)) (sym f.quiet) tt;
    rise = subst NeverFall (sym f.quiet) tt;
    has_rack = subst (HasRacks net) (sym f.seat) there;
  },
  omega (arith, f.reserved),
)

-- so each analyst has asked nothing and made no looks yet, and has memory reserved for all its looks
pub each_ready : (net : Net) (many : ℕ) (p : Prepared) (seated : List SeatedAnalyst) → IsPrepared net many p
    → map (λ (a : SeatedAnalyst). a.0.pass) seated ≡ p.passes.items → AllByRecursion (IsFresh p.racks.items) seated
    → (k : ℕ) (d : SeatedAnalyst) → k < length seated → MayAct (desk_id p.desk) net (get_or seated k d)
each_ready net many p seated h are fresh k d less =
    let none = none_made net (get_or seated k d) p.racks.items
    (all_at (IsFresh p.racks.items) seated k d fresh less) (has_racks net many p h) in (
      all_ready (desk_id p.desk) net many p.passes.items seated are h.passes k d less,
      none.0,
      none.1,
    )

-- what they have to do, by the number of passes and by that of analysts
own_todo : (net : Net) (s : ScriptView) (p : Prepared) (seated : List SeatedAnalyst)
    → IsPrepared net (length s.analysts) p
    → map (λ (a : SeatedAnalyst). a.0.todo.items) seated ≡ each_acts s.items (length p.passes.items)
    → map (λ (a : SeatedAnalyst). a.0.todo.items) seated ≡ each_acts s.items (length s.analysts)
own_todo net s p seated h todo = todo ∙ ap (each_acts s.items) (many_passes net (length s.analysts) p h)

-- analysts of a script have no more acts together than a journal holds calls
pub little_todo : (net : Net) (s : ScriptView) (p : Prepared) (seated : List SeatedAnalyst)
    → IsPrepared net (length s.analysts) p → length s.items ≤ MAX_ITEMS
    → map (λ (a : SeatedAnalyst). a.0.todo.items) seated ≡ each_acts s.items (length p.passes.items)
    → total_todo seated ≤ MAX_CALLS
little_todo net s p seated h few todo =
    few_todo s.items seated (length s.analysts) (own_todo net s p seated h todo) few

-- what was prepared has free places for what these analysts leave
pub enough_reserved : (net : Net) (many : ℕ) (p : Prepared) (seated : List SeatedAnalyst) → IsPrepared net many p
    → map (λ (a : SeatedAnalyst). a.0.pass) seated ≡ p.passes.items → HasReservedFor (length seated) p.reserve
enough_reserved net many p seated h are =
    let len = many_analysts (desk_id p.desk) net many p.passes.items seated are h.passes in
    subst (λ n. HasReservedFor n p.reserve) (sym len) h.reserve

-- ---- the journal
-- if analysts with the passes that were prepared have asked all, the journal is one of the script
pub journal_is : (net : Net) (s : ScriptView) (p : Prepared) (seated : List SeatedAnalyst) (book : BookView)
    → IsPrepared net (length s.analysts) p → map (λ (a : SeatedAnalyst). a.0.pass) seated ≡ p.passes.items
    → map (λ (a : SeatedAnalyst). a.0.todo.items) seated ≡ each_acts s.items (length p.passes.items)
    → IsAllAsked p.helm.net seated book → IsJournalOf net s book
journal_is net s p seated book h are todo asked =
    journal_of_script (desk_id p.desk) net s p.passes.items seated book are h.passes
    (own_todo net s p seated h todo)
    (subst (λ (n : Net). IsAllAsked n seated book) (helm_net net (length s.analysts) p h) asked)

-- ---- the looks
-- if they have made the looks that they had to make, these are all looks of the script
pub made_are : (net : Net) (s : ScriptView) (p : Prepared) (seated : List SeatedAnalyst)
    (looks : List (ReservedView Looked)) → IsPrepared net (length s.analysts) p
    → map (λ (a : SeatedAnalyst). a.0.number) seated ≡ numbers_to (length p.passes.items)
    → map (λ (a : SeatedAnalyst). a.0.todo.items) seated ≡ each_acts s.items (length p.passes.items)
    → looks_made looks ≡ looks_to_make seated → AreSeenLooks p.helm.net looks → AreMadeLooks net s (all_looks looks)
made_are net s p seated looks h numbers todo made seen =
    let many = length s.analysts in
    seen_of_script net s (length p.passes.items) seated looks (many_passes net many p h) numbers todo made
    (subst (λ (n : Net). AreSeenLooks n looks) (helm_net net many p h) seen)
