-- What one act more does to what was asked and looked at.
use Rattle.std.proofs.Common.{◌≡◌, ℕ, ◌<◌, ◌≤◌, List, [], ◌∷◌, ◌++◌, length, map, Option, Some}
use Rattle.std.proofs.Common.{None, IfSome, sym, ap, ap₂, ◌∙◌, subst, arith}
use Rattle.std.proofs.Common.{length-append, append-nil}
use Rattle.std.specs.List.{AllByRecursion}
use Rattle.std.proofs.lemmas.List.{length-map, map-append}
use Rattle.std.proofs.lemmas.List.Concat.{flat_map-append}
use Rattle.std.proofs.lemmas.Option.{same_Some}
use mathlib.Core.List.{IsPrefix}
use Rattle.atomic_table.specs.Seated.{TableId}
use Rattle.sim_base.proofs.ListLaws.{all_push, all_weaker, prefix_trans}
use Rattle.sim_base.specs.declared.decision.Decision.{Decision}
use Rattle.net_model.specs.Net.{Net, station_named}
use Rattle.decision_script.specs.declared.item.Act.{Act}
use Rattle.decision_script.specs.declared.item.Act.TheVariants.{Decide, Look}
use Rattle.decision_script.specs.Alone.{decisions_onto}
use Rattle.decision_book.specs.Journal.{Event}
use Rattle.decision_desk.specs.declared.pass.Receipt.{Receipt}
use Rattle.decision_desk.specs.Passes.{PassView, IsAsked}
use Rattle.phys_proc.specs.Racks.{RackView}
use Rattle.phys_proc.specs.declared.rack.Glance.{Glance}
use Rattle.shelf.specs.Racks.{AreLegal, IsGlance, latest}
use Rattle.shelf.proofs.Legals.{front-later, HasRack-later}
use Rattle.journal_text.specs.declared.looked.Looked.{Looked}
use Rattle.live_study.specs.declared.analyst.Analyst.{Analyst}
use Rattle.live_study.specs.Asking.{AreAsked, HasAsked, IsSameAnalyst, decisions_asked}
use Rattle.live_study.specs.Looks.{HasRacks, IsNoEarlier, IsReadLook, NeverFall, WasRead, look_of}
use Rattle.live_study.specs.Scripts.{look_onto, looks_in}
use Rattle.live_study.specs.Showing.{HasLooked}
use Rattle.live_study.proofs.Askings.{asked_more}

-- the decisions among acts with one act more
decisions_asked-push : (acts : List Act) (act : Act)
    → decisions_asked (acts ++ act ∷ []) ≡ decisions_asked acts ++ decisions_onto act []
decisions_asked-push acts act =
    flat_map-append (λ a. decisions_onto a []) acts (act ∷ [])
    ∙ ap (λ xs. decisions_asked acts ++ xs) (append-nil (decisions_onto act []))

-- the looks among acts with one act more
looks_more : (x : ℕ) (acts : List Act) (act : Act) → looks_in x (acts ++ act ∷ []) ≡ looks_in x acts ++ look_onto x act
looks_more x acts act =
    flat_map-append (look_onto x) acts (act ∷ []) ∙ ap (λ xs. looks_in x acts ++ xs) (append-nil (look_onto x act))

-- ---- decisions
-- an analyst that asks a decision has asked one decision more
pub asked_next : (desk : TableId) (acts : List Act) (d : Decision) (old new : Analyst) (receipt : Receipt)
    (j : List Event) → HasAsked desk acts old → IsAsked old.pass d receipt new.pass j
    → HasAsked desk (acts ++ Decide d ∷ []) new
asked_next desk acts d old new receipt j h a =
    let r = asked_more (decisions_asked acts) old.pass new.pass d receipt j h.all a in
    record {
      desk_is = r.1 ∙ h.desk_is;
      all = subst (λ ds. AreAsked ds new.pass.account) (sym (decisions_asked-push acts (Decide d))) r.0;
    }

-- an analyst that looked, its pass as it was, has asked what it had to ask
pub asked_over : (desk : TableId) (acts : List Act) (who station : List ℕ) (old new : Analyst) → HasAsked desk acts old
    → new.pass ≡ old.pass → HasAsked desk (acts ++ Look who station ∷ []) new
asked_over desk acts who station old new h e =
    let none : decisions_asked (acts ++ Look who station ∷ []) ≡ decisions_asked acts =
    decisions_asked-push acts (Look who station) ∙ append-nil (decisions_asked acts) in
    record {
      desk_is = ap (λ (p : PassView). p.desk) e ∙ h.desk_is;
      all = subst (λ (p : PassView). AreAsked (decisions_asked (acts ++ Look who station ∷ [])) p.account) (sym e)
          (subst (λ ds. AreAsked ds old.pass.account) (sym none) h.all);
    }

-- ---- looks
-- what was read in a prefix of a list was read in the list
known_later : (n : Option ℕ) (most : ℕ) (who : List ℕ) (xs ys : List RackView) (o : Option Glance) → IsPrefix xs ys
    → IfSome o (λ g. (s : ℕ) × (n ≡ Some s) × (s ≤ most) × WasRead xs s who g)
    → IfSome o (λ g. (s : ℕ) × (n ≡ Some s) × (s ≤ most) × WasRead ys s who g)
known_later n most who xs ys None p h = tt
known_later n most who xs ys (Some g) p h = (
  h.0,
  h.1,
  h.2,
  record {
    before = h.3.before;
    begins = prefix_trans h.3.before xs ys h.3.begins p;
    rack = h.3.rack;
    last = h.3.last;
    glance = h.3.glance;
  },
)

-- what was read before is read later
read_later : (net : Net) (xs ys : List RackView) (l : Looked) → IsPrefix xs ys → IsReadLook net xs l
    → IsReadLook net ys l
read_later net xs ys l p r = record {
  unknown = r.unknown;
  known = known_later (station_named l.station net) (length net.sites) l.who xs ys l.glance p r.known;
}

-- a look that is no earlier than those before it
never_fall-with : (ls : List Looked) (l : Looked) → NeverFall ls → AllByRecursion (λ k. IsNoEarlier k l) ls
    → NeverFall (ls ++ l ∷ [])
never_fall-with [] l rise later = (tt, tt)
never_fall-with (k ∷ ls) l rise later =
    (all_push (IsNoEarlier k) ls l rise.0 later.0, never_fall-with ls l rise.1 later.1)

-- what was looked at, by its three parts
asked_is : (l : Looked) (x : ℕ) (who station : List ℕ) → l.analyst ≡ x → l.who ≡ who → l.station ≡ station
    → look_of l ≡ (x, who, station)
asked_is l x who station e f g = λ i. (e i, f i, g i)

-- and one that looked has looked at one thing more
pub looked_next : (net : Net) (acts : List Act) (who station : List ℕ) (old new : Analyst) (xs ys : List RackView)
    (l : Looked) → HasLooked net acts (old, xs) → IsPrefix xs ys → HasRacks net ys → IsReadLook net ys l
    → ((k : Looked) → IsReadLook net xs k → IsNoEarlier k l) → l.analyst ≡ old.number → l.who ≡ who
    → l.station ≡ station → new.looks.items ≡ old.looks.items ++ l ∷ []
    → new.number ≡ old.number → HasLooked net (acts ++ Look who station ∷ []) (new, ys)
looked_next net acts who station old new xs ys l h p there r later a w s items n = record {
  asked = ap (map look_of) items ∙ map-append look_of old.looks.items (l ∷ [])
      ∙ ap₂ (λ us v. us ++ v ∷ []) h.asked (asked_is l old.number who station a w s)
      ∙ ap (λ x. looks_in x acts ++ (x, who, station) ∷ []) (sym n)
      ∙ sym (looks_more new.number acts (Look who station));
  read = subst (λ ls. AllByRecursion (IsReadLook net ys) ls) (sym items) (all_push (IsReadLook net ys) old.looks.items l
      (all_weaker (IsReadLook net xs) (IsReadLook net ys) old.looks.items (λ k q. read_later net xs ys k p q) h.read)
      r);
  rise = subst NeverFall (sym items) (never_fall-with old.looks.items l h.rise
      (all_weaker (IsReadLook net xs) (λ k. IsNoEarlier k l) old.looks.items later h.read));
  has_rack = there;
}

-- no act asks for more than one look
few_onto : (x : ℕ) (act : Act) → length (look_onto x act) ≤ 1
few_onto x (Decide d) = omega arith
few_onto x (Look who station) = omega arith

-- so there are no more looks than acts
few_looks : (x : ℕ) (acts : List Act) → length (looks_in x acts) ≤ length acts
few_looks x [] = omega arith
few_looks x (act ∷ acts) = omega (
  arith,
  few_onto x act,
  few_looks x acts,
  length-append (look_onto x act) (looks_in x acts),
)

-- nor for more than one decision
few_decisions_onto : (act : Act) → length (decisions_onto act []) ≤ 1
few_decisions_onto (Decide d) = omega arith
few_decisions_onto (Look who station) = omega arith

-- so there are no more decisions than acts
pub length-decisions_asked : (acts : List Act) → length (decisions_asked acts) ≤ length acts
length-decisions_asked [] = omega arith
length-decisions_asked (act ∷ acts) = omega (
  arith,
  few_decisions_onto act,
  length-decisions_asked acts,
  length-append (decisions_onto act []) (decisions_asked acts),
)

-- so there is a free place for a look more
pub free_for_one : (net : Net) (acts : List Act) (a : Analyst) (read : List RackView) (most : ℕ)
    → HasLooked net acts (a, read) → length acts < most → most ≤ a.looks.reserved
    → length a.looks.items < a.looks.reserved
free_for_one net acts a read most h less enough =
    let many : length a.looks.items ≡ length (looks_in a.number acts) =
    sym (length-map a.looks.items look_of) ∙ ap length h.asked in
    omega (arith, many, few_looks a.number acts, less, enough)

-- ---- what stays
-- an analyst that stays the same, and then once more, stays the same
pub IsSameAnalyst-trans : (a b c : Analyst) → IsSameAnalyst a b → IsSameAnalyst b c → IsSameAnalyst a c
IsSameAnalyst-trans a b c s t = record {
  todo = t.todo ∙ s.todo;
  caller = t.caller ∙ s.caller;
  number = t.number ∙ s.number;
  reserved = t.reserved ∙ s.reserved;
}

-- ---- one look
-- if each station has a rack in a prefix of a list, each has one in the list
pub racks_later : (net : Net) (xs ys : List RackView) → IsPrefix xs ys → HasRacks net xs → HasRacks net ys
racks_later net xs ys p h = λ s is. HasRack-later s xs ys p (h s is)

-- ---- a look and those before it
-- a look at which nothing was seen is no earlier than any
pub none_later : (k l : Looked) → l.glance ≡ None → IsNoEarlier k l
none_later k l e = λ a s f g ef eg. absurd (cc)

-- what was read before shows of its station nothing later than the last rack does
known_earlier : (n : Option ℕ) (most : ℕ) (who : List ℕ) (ys : List RackView) (o : Option Glance) (f : Glance) (s : ℕ)
    (r : RackView) → AreLegal ys → IfSome o (λ g. (t : ℕ) × (n ≡ Some t) × (t ≤ most) × WasRead ys t who g)
    → o ≡ Some f → n ≡ Some s → latest s ys ≡ Some r → f.front ≤ r.front
known_earlier n most who ys None f s r legal known e at last = absurd (cc)
known_earlier n most who ys (Some g) f s r legal known e at last =
    let same : g ≡ f = cc in
    let own : known.0 ≡ s = same_Some known.0 s (sym known.1 ∙ at) in
    let was = known.3 in
    let below : was.rack.front ≤ r.front =
    front-later known.0 was.before ys was.rack r legal was.begins was.last
    (subst (λ t. latest t ys ≡ Some r) (sym own) last) in
    omega (arith, below, was.glance.front, ap (λ (x : Glance). x.front) same)

-- a glance of the last rack is at no earlier front than what was read of the station before
pub seen_later : (net : Net) (xs ys : List RackView) (k l : Looked) (g : Glance) (s : ℕ) (r : RackView)
    → IsPrefix xs ys → AreLegal ys → IsReadLook net xs k → l.glance ≡ Some g → station_named l.station net ≡ Some s
    → latest s ys ≡ Some r → IsGlance r l.who g → IsNoEarlier k l
seen_later net xs ys k l g s r p legal read e n last is = λ a own f h ef eh.
    let same : h ≡ g = same_Some h g (sym eh ∙ e) in
    let at : station_named k.station net ≡ Some s = ap (λ name. station_named name net) (sym own) ∙ n in
    let early : f.front ≤ r.front =
    known_earlier (station_named k.station net) (length net.sites) k.who ys k.glance f s r legal
    (read_later net xs ys k p read).known ef at last in
    omega (arith, early, is.front, ap (λ (x : Glance). x.front) same)
