-- The invariants that an accepted change keeps.
use Rattle.std.proofs.Common.{◌≡◌, ℕ, ◌≤◌, Bool, true, false, refl, length}
use Rattle.std.proofs.lemmas.Bool.{and_parts, false≢true}
use Rattle.sim_base.specs.declared.message.Change.{Change}
use Rattle.sim_base.specs.declared.message.Param.{Param}
use Rattle.sim_base.specs.declared.message.Param.TheVariants.{Every, Service, Hold, Servers, Room, Weight}
use Rattle.sim_base.specs.Weights.{IsWeight}
use Rattle.net_model.specs.declared.station.Kind.{Kind}
use Rattle.net_model.specs.declared.station.Kind.TheVariants.{Source, Server, Delay, Router, Sink}
use Rattle.net_model.specs.Net.{Site, is_router}
use Rattle.net_model.specs.Rules.{IsRange, is_within}
use Rattle.net_model.specs.declared.limits.TheConstants.{MAX_WEIGHT}
use Rattle.net_model.proofs.Bounds.{is_range-bounds, is_within-bounds}
use Rattle.stations.specs.Changes.{has_parameter, is_in_range, is_accepted}

-- ---- is_accepted

-- an accepted change passes both tests
is_accepted-tests : (t r : Bool) (site : Site) (c : Change) → has_parameter site.kind c.param ≡ t
    → is_in_range (length site.links) c.param c.a c.b ≡ r → is_accepted site c ≡ true → (t ≡ true) × (r ≡ true)
is_accepted-tests true true site c t r accepted = (refl, refl)
is_accepted-tests true false site c t r accepted = absurd (false≢true (rw (t, r) at accepted))
is_accepted-tests false r site c t e accepted = absurd (false≢true (rw t at accepted))

-- an accepted change has a parameter of the kind, and values in its range
pub is_accepted-parts : (site : Site) (c : Change) → is_accepted site c ≡ true
    → (has_parameter site.kind c.param ≡ true) × (is_in_range (length site.links) c.param c.a c.b ≡ true)
is_accepted-parts site c accepted =
    is_accepted-tests (has_parameter site.kind c.param) (is_in_range (length site.links) c.param c.a c.b) site c
    refl refl accepted

-- ---- a router: a new weight

-- a change names one of `n` links, and a weight
pub record IsWeightChange (links : ℕ) (c : Change) : Type 0 where
  pub first : 1 ≤ c.a
  pub last : c.a ≤ links
  pub weight : IsWeight c.b

-- the values of a weight's change that are in range are a link's number, and a weight
is_in_range-weight : (links a b : ℕ) → is_in_range links Weight a b ≡ true
    → (1 ≤ a) × (a ≤ links) × IsWeight b
is_in_range-weight links a b h =
    let parts = and_parts (is_within 1 links a) (is_within 1 MAX_WEIGHT b) h in
    let link = is_within-bounds 1 links a parts.0 in
    let weight = is_within-bounds 1 MAX_WEIGHT b parts.1 in
    (link.0, link.1, record { heavy = weight.0; light = weight.1 })

-- the parameter of a router is a weight
has_parameter-router : (kind : Kind) (p : Param) → is_router kind ≡ true → has_parameter kind p ≡ true → p ≡ Weight
has_parameter-router (Router turn) Every is has_parameter = absurd (false≢true has_parameter)
has_parameter-router (Router turn) Service is has_parameter = absurd (false≢true has_parameter)
has_parameter-router (Router turn) Hold is has_parameter = absurd (false≢true has_parameter)
has_parameter-router (Router turn) Servers is has_parameter = absurd (false≢true has_parameter)
has_parameter-router (Router turn) Room is has_parameter = absurd (false≢true has_parameter)
has_parameter-router (Router turn) Weight is has_parameter = refl
has_parameter-router (Source lo hi jobs class) p is has_parameter = absurd (false≢true is)
has_parameter-router (Server servers room lo hi by_class) p is has_parameter = absurd (false≢true is)
has_parameter-router (Delay lo hi) p is has_parameter = absurd (false≢true is)
has_parameter-router Sink p is has_parameter = absurd (false≢true is)

-- a router accepts a new weight of one of its links
pub is_accepted-router : (site : Site) (c : Change) → is_router site.kind ≡ true → is_accepted site c ≡ true
    → IsWeightChange (length site.links) c
is_accepted-router site c is accepted =
    let parts = is_accepted-parts site c accepted in
    let weight = has_parameter-router site.kind c.param is parts.0 in
    let bounds = is_in_range-weight (length site.links) c.a c.b (rw weight at parts.1) in
    record { first = bounds.0; last = bounds.1; weight = bounds.2 }

-- ---- a source and a delay: a new range

-- the parameter of a source is its range
has_parameter-source : (lo hi jobs class : ℕ) (p : Param) → has_parameter (Source lo hi jobs class) p ≡ true → p ≡ Every
has_parameter-source lo hi jobs class Every has_parameter = refl
has_parameter-source lo hi jobs class Service has_parameter = absurd (false≢true has_parameter)
has_parameter-source lo hi jobs class Hold has_parameter = absurd (false≢true has_parameter)
has_parameter-source lo hi jobs class Servers has_parameter = absurd (false≢true has_parameter)
has_parameter-source lo hi jobs class Room has_parameter = absurd (false≢true has_parameter)
has_parameter-source lo hi jobs class Weight has_parameter = absurd (false≢true has_parameter)

-- and so is that of a delay
has_parameter-delay : (lo hi : ℕ) (p : Param) → has_parameter (Delay lo hi) p ≡ true → p ≡ Hold
has_parameter-delay lo hi Every has_parameter = absurd (false≢true has_parameter)
has_parameter-delay lo hi Service has_parameter = absurd (false≢true has_parameter)
has_parameter-delay lo hi Hold has_parameter = refl
has_parameter-delay lo hi Servers has_parameter = absurd (false≢true has_parameter)
has_parameter-delay lo hi Room has_parameter = absurd (false≢true has_parameter)
has_parameter-delay lo hi Weight has_parameter = absurd (false≢true has_parameter)

-- a source accepts a range from 1 on
pub is_accepted-source : (lo hi jobs class : ℕ) (site : Site) (c : Change) → site.kind ≡ Source lo hi jobs class
    → is_accepted site c ≡ true → IsRange 1 c.a c.b
is_accepted-source lo hi jobs class site c is accepted =
    let parts = is_accepted-parts site c accepted in
    let every = has_parameter-source lo hi jobs class c.param (rw is at parts.0) in
    is_range-bounds 1 c.a c.b (rw every at parts.1)

-- a delay accepts a range from 0 on
pub is_accepted-delay : (lo hi : ℕ) (site : Site) (c : Change) → site.kind ≡ Delay lo hi → is_accepted site c ≡ true
    → IsRange 0 c.a c.b
is_accepted-delay lo hi site c is accepted =
    let parts = is_accepted-parts site c accepted in
    let hold = has_parameter-delay lo hi c.param (rw is at parts.0) in
    is_range-bounds 0 c.a c.b (rw hold at parts.1)
