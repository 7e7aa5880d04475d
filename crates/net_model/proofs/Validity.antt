-- Every model that is read meets the rules.
use Rattle.std.proofs.Common.{◌≡◌, ◌≢◌, refl, ap, sym, ◌∙◌, subst, ℕ, zero, suc, ◌+◌, ◌<◌, ◌≤◌, ◌==◌, ◌||◌, nat_lt, not}
use Rattle.std.proofs.Common.{true, false, codes, if◌then◌else◌, List, [], ◌∷◌, length, map, slice_get, option_map}
use Rattle.std.proofs.Common.{unwrap_or, position, Option, Some, None, Ok, Err, ◌⊎◌, inl, inr, arith}
use Rattle.std.specs.List.{AllByRecursion}
use Rattle.std.specs.Str.{bytes_eq}
use Rattle.std.proofs.lemmas.Bool.{false≢true, ltb-false}
use Rattle.std.proofs.lemmas.Bool.Decides.{nat_tests}
use Rattle.std.proofs.lemmas.List.{length-map}
use Rattle.std.proofs.lemmas.List.Quantifiers.{position-Some}
use Rattle.std.proofs.lemmas.Option.{slice_get-map}
use Rattle.toml.specs.Data.{Data}
use Rattle.sim_base.specs.Names.{is_name, AreDistinct}
use Rattle.sim_base.specs.Weights.{IsWeight}
use Rattle.net_model.specs.declared.fault.ModelFault.TheVariants.{UnknownStation, IntoSource, ShortDelay}
use Rattle.net_model.specs.declared.fault.ModelFault.TheVariants.{NoWayOut, OutOfRange, TooMany}
use Rattle.net_model.specs.declared.field.Field.TheVariants.{Format, Lookahead, Horizon, Seed, Limit, Station}
use Rattle.net_model.specs.declared.links.NamedLink.{NamedLink}
use Rattle.net_model.specs.declared.station.Kind.{Kind}
use Rattle.net_model.specs.declared.station.Kind.TheVariants.{Source, Server, Delay, Router, Sink}
use Rattle.net_model.specs.declared.station.Link.{Link}
use Rattle.net_model.specs.declared.top.Top.{Top}
use Rattle.sim_base.specs.Chain.{◌>>=◌}
use Rattle.net_model.specs.Drafts.{DraftSite, drafts_of}
use Rattle.net_model.specs.Keys.{only_known, top_keys}
use Rattle.net_model.specs.Net.{Net, Site, is_sink, is_source, no_site, site_of}
use Rattle.net_model.specs.Reading.{integer_at, tables_of, value_at}
use Rattle.net_model.specs.Resolving.{links_of_named, kind_after, link_along, link_of_named}
use Rattle.net_model.specs.Resolving.{site_of_draft, sites_of, with_way_out}
use Rattle.net_model.specs.Rules.{HasWayOut, IsKind, IsLink, IsNet, IsOfFormat1, IsSite}
use Rattle.net_model.specs.Sites.{with_sites}
use Rattle.net_model.specs.Text.{model_of, sites_of_tables}
use Rattle.net_model.specs.Top.{in_number, stations_at, top_of}
use Rattle.net_model.proofs.Bounds.{if-Err, if-Ok, Err-not-Ok, Ok-injective, integer_at-required, integer_at-usual}
use Rattle.sim_base.proofs.Chain.{bind-Ok}
use Rattle.sim_base.proofs.ListLaws.{all_weaker}
use Rattle.net_model.proofs.Stations.{AreDrafts, IsDraft, IsNamedLink, drafts_of-holds}
use Rattle.net_model.specs.declared.limits.TheConstants.{MAX_HORIZON, MAX_LIMIT, MAX_LINKS, MAX_SEED}
use Rattle.net_model.specs.declared.limits.TheConstants.{MAX_STATIONS, MAX_TIME, USUAL_LIMIT}

-- ---- link_along, links_of_named

-- a link that leads to the station after `others` others
record IsResolved (lookahead : ℕ) (all : List DraftSite) (link : Link) : Type 0 where
  pub others : ℕ
  pub number : link.to ≡ others + 1
  pub in_range : others < length all
  pub receives : is_source (kind_after others all) ≡ false
  pub slow : lookahead ≤ link.delay
  pub small : link.delay ≤ MAX_TIME
  pub weight : IsWeight link.weight

-- a link that is read and resolved is one
link_along-holds : (lookahead : ℕ) (all : List DraftSite) (station : ℕ) (link : NamedLink) (found : Option ℕ) (l : Link)
    → position (λ draft. bytes_eq draft.name link.to) all ≡ found → IsNamedLink link
    → link_along lookahead all station link found ≡ Ok l → IsResolved lookahead all l
link_along-holds lookahead all station link None l is named h = absurd (Err-not-Ok (UnknownStation station) l h)
link_along-holds lookahead all station link (Some i) l is named h =
    let anyone : DraftSite = record { name = []; kind = Sink; stream = 0; links = [] } in
    let (there, same, first) = position-Some (λ draft. bytes_eq draft.name link.to) all i anyone is in
    let (receives, h1) = if-Err (is_source (kind_after i all))
    (if nat_lt link.delay lookahead then Err (ShortDelay station) else Ok
    (record { to = i + 1; delay = link.delay; weight = link.weight })) l (IntoSource station) h in
    let (slow, h2) = if-Err (nat_lt link.delay lookahead)
    (Ok (record { to = i + 1; delay = link.delay; weight = link.weight })) l (ShortDelay station) h1 in
    let made : Link = record { to = i + 1; delay = link.delay; weight = link.weight } in
    subst (λ (x : Link). IsResolved lookahead all x) {x = made} (Ok-injective made l h2)
    (record {
      others = i;
      number = refl;
      in_range = there;
      receives = receives;
      slow = ltb-false link.delay lookahead slow;
      small = named.small;
      weight = named.weight;
    })

-- so is each of a station
links_of_named-holds : (lookahead : ℕ) (all : List DraftSite) (station : ℕ) (named : List NamedLink) (links : List Link)
    → AllByRecursion IsNamedLink named → links_of_named lookahead all station named ≡ Ok links
    → AllByRecursion (IsResolved lookahead all) links × (length links ≡ length named)
links_of_named-holds lookahead all station [] links are h =
    subst (λ (ls : List Link). AllByRecursion (IsResolved lookahead all) ls × (length ls ≡ 0))
    (Ok-injective [] links h) (tt, refl)
links_of_named-holds lookahead all station (n ∷ named) links are h =
    let (first, e1, h1) = bind-Ok (link_of_named lookahead all station n)
    (λ first. links_of_named lookahead all station named >>= (λ others. Ok (first ∷ others))) links h in
    let (others, e2, h2) = bind-Ok (links_of_named lookahead all station named) (λ others. Ok (first ∷ others)) links
    h1 in
    let (holds, count) = links_of_named-holds lookahead all station named others are.1 e2 in
    subst (λ (ls : List Link). AllByRecursion (IsResolved lookahead all) ls × (length ls ≡ length (n ∷ named)))
    (Ok-injective (first ∷ others) links h2) (
      (
        link_along-holds lookahead all station n (position (λ draft. bytes_eq draft.name n.to) all) first refl are.0 e1,
        holds,
      ),
      omega (arith, count),
    )

-- ---- site_of_draft, sites_of

-- a station that passes the test has a way out
HasWayOut-tested : (kind : Kind) (links : List Link) → (is_sink kind || not (length links == 0)) ≡ true
    → (is_sink kind ≡ true → length links ≡ 0) → HasWayOut kind links
HasWayOut-tested Sink links some closed = closed refl
HasWayOut-tested (Source lo hi jobs class) [] some closed = absurd (false≢true some)
HasWayOut-tested (Server servers room lo hi by_class) [] some closed = absurd (false≢true some)
HasWayOut-tested (Delay lo hi) [] some closed = absurd (false≢true some)
HasWayOut-tested (Router turn) [] some closed = absurd (false≢true some)
HasWayOut-tested (Source lo hi jobs class) (l ∷ links) some closed = omega arith
HasWayOut-tested (Server servers room lo hi by_class) (l ∷ links) some closed = omega arith
HasWayOut-tested (Delay lo hi) (l ∷ links) some closed = omega arith
HasWayOut-tested (Router turn) (l ∷ links) some closed = omega arith

-- a station whose links are resolved
record IsResolvedSite (format lookahead : ℕ) (all : List DraftSite) (site : Site) : Type 0 where
  pub named : is_name site.name ≡ true
  pub no_analyst : site.name ≢ codes "analyst"
  pub stream : site.stream ≤ MAX_SEED
  pub kind : IsKind site.kind
  pub of_format : format ≡ 1 → IsOfFormat1 site.kind
  pub at_most : length site.links ≤ MAX_LINKS
  pub links : AllByRecursion (IsResolved lookahead all) site.links
  pub way : HasWayOut site.kind site.links

-- it is placed, under the name and with the kind of its draft
abbrev SiteHolds : ℕ → ℕ → List DraftSite → DraftSite → Site → Type 0
SiteHolds format lookahead all draft site = IsResolvedSite format lookahead all site × (site.name ≡ draft.name)
    × (site.kind ≡ draft.kind)

-- a station that is read is one when its links are resolved
site_of_draft-holds : (format lookahead : ℕ) (all : List DraftSite) (station : ℕ) (draft : DraftSite) (site : Site)
    → IsDraft format draft → site_of_draft lookahead all station draft ≡ Ok site
    → SiteHolds format lookahead all draft site
site_of_draft-holds format lookahead all station draft site is h =
    let (links, e1, h1) = bind-Ok (links_of_named lookahead all station draft.links >>= with_way_out station draft.kind)
    (λ links. Ok (record { name = draft.name; kind = draft.kind; stream = draft.stream; links = links })) site h in
    let (found, e2, h2) = bind-Ok (links_of_named lookahead all station draft.links)
    (with_way_out station draft.kind) links e1 in
    let (holds, count) = links_of_named-holds lookahead all station draft.links found is.links e2 in
    let (some, same) = if-Ok (is_sink draft.kind || not (length found == 0)) found links (NoWayOut station) h2 in
    let placed : SiteHolds format lookahead all draft
    (record { name = draft.name; kind = draft.kind; stream = draft.stream; links = found }) = (
      record {
        named = is.named;
        no_analyst = is.no_analyst;
        stream = is.stream;
        kind = is.kind;
        of_format = is.of_format;
        at_most = omega (arith, count, is.at_most);
        links = holds;
        way = HasWayOut-tested draft.kind found some (λ e. count ∙ is.closed e);
      },
      refl,
      refl,
    ) in
    subst (λ (s : Site). SiteHolds format lookahead all draft s)
    (Ok-injective (record { name = draft.name; kind = draft.kind; stream = draft.stream; links = links }) site h1)
    (subst (λ (ls : List Link). SiteHolds format lookahead all draft
    (record { name = draft.name; kind = draft.kind; stream = draft.stream; links = ls })) same placed)

-- the stations of the network are placed, with the names and kinds of the drafts
record AreResolvedSites (format lookahead : ℕ) (all drafts : List DraftSite) (sites : List Site) : Type 0 where
  pub placed : AllByRecursion (IsResolvedSite format lookahead all) sites
  pub names : map (λ s. s.name) sites ≡ map (λ x. x.name) drafts
  pub kinds : map (λ s. s.kind) sites ≡ map (λ x. x.kind) drafts

-- so are all that are read, in the order of the drafts
sites_of-holds : (format lookahead : ℕ) (all : List DraftSite) (station : ℕ) (drafts : List DraftSite)
    (sites : List Site) → AllByRecursion (IsDraft format) drafts → sites_of lookahead all station drafts ≡ Ok sites
    → AreResolvedSites format lookahead all drafts sites
sites_of-holds format lookahead all station [] sites are h =
    subst (λ (ss : List Site). AreResolvedSites format lookahead all [] ss) (Ok-injective [] sites h)
    (record { placed = tt; names = refl; kinds = refl })
sites_of-holds format lookahead all station (x ∷ drafts) sites are h =
    let (site, e1, h1) = bind-Ok (site_of_draft lookahead all station x)
    (λ site. sites_of lookahead all (station + 1) drafts >>= (λ sites. Ok (site ∷ sites))) sites h in
    let (rest, e2, h2) = bind-Ok (sites_of lookahead all (station + 1) drafts) (λ sites. Ok (site ∷ sites)) sites h1 in
    let first = site_of_draft-holds format lookahead all station x site are.0 e1 in
    let others = sites_of-holds format lookahead all (station + 1) drafts rest are.1 e2 in
    subst (λ (ss : List Site). AreResolvedSites format lookahead all (x ∷ drafts) ss)
    (Ok-injective (site ∷ rest) sites h2)
    (record {
      placed = (first.0, others.placed);
      names = ap (λ n. n ∷ map (λ s. s.name) rest) first.1 ∙ ap (λ ns. x.name ∷ ns) others.names;
      kinds = ap (λ k. k ∷ map (λ s. s.kind) rest) first.2 ∙ ap (λ ks. x.kind ∷ ks) others.kinds;
    })

-- ---- with_sites

-- the kind of a station that is found, from the list of kinds
site_kind : (found : Option Site) → (unwrap_or found no_site).kind ≡ unwrap_or (option_map (λ s. s.kind) found) Sink
site_kind None = refl
site_kind (Some s) = refl

-- stations whose kinds are those of their drafts have them number by number
kind_there : (sites : List Site) (drafts : List DraftSite) (i : ℕ)
    → map (λ s. s.kind) sites ≡ map (λ x. x.kind) drafts
    → (unwrap_or (slice_get sites i) no_site).kind ≡ kind_after i drafts
kind_there sites drafts i kinds =
    site_kind (slice_get sites i)
    ∙ ap (λ o. unwrap_or o Sink) (sym (slice_get-map (λ s. s.kind) sites i)
    ∙ (ap (λ ks. slice_get ks i) kinds ∙ slice_get-map (λ x. x.kind) drafts i))

module _ (top : Top) (drafts : List DraftSite) (sites : List Site)
    (holds : AreResolvedSites top.format top.lookahead drafts drafts sites) where
  -- they are as many as their drafts
  length-sites : length sites ≡ length drafts
  length-sites = sym (length-map sites (λ s. s.kind)) ∙ (ap length holds.kinds ∙ length-map drafts (λ x. x.kind))

  -- the station of a number has the kind of the draft of that number
  site_of-kind : (n i : ℕ) → n ≡ suc i → (site_of (with_sites top sites) n).kind ≡ kind_after i drafts
  site_of-kind n i is = ap (λ k. (site_of (with_sites top sites) k).kind) is ∙ kind_there sites drafts i holds.kinds

  -- a link that is resolved keeps to the rules of the network
  link_is : (link : Link) → IsResolved top.lookahead drafts link → IsLink (with_sites top sites) link
  link_is link r =
      record {
        is_station = record { low = omega (arith, r.number); high = omega (arith, r.number, r.in_range, length-sites) };
        receives = ap is_source (site_of-kind link.to r.others (omega (arith, r.number))) ∙ r.receives;
        slow = r.slow;
        small = r.small;
        weight = r.weight;
      }

  -- so does a station that is placed
  site_is : (site : Site) → IsResolvedSite top.format top.lookahead drafts site → IsSite (with_sites top sites) site
  site_is site p =
      record {
        named = p.named;
        no_analyst = p.no_analyst;
        stream = p.stream;
        kind = p.kind;
        format = p.of_format;
        at_most = p.at_most;
        links = all_weaker (IsResolved top.lookahead drafts) (IsLink (with_sites top sites)) site.links link_is p.links;
        way = p.way;
      }

  -- and so do all of them
  sites_are : AllByRecursion (IsSite (with_sites top sites)) sites
  sites_are = all_weaker (IsResolvedSite top.format top.lookahead drafts) (IsSite (with_sites top sites)) sites site_is
      holds.placed

-- ---- top_of, stations_at

-- the numbers at the top
record IsTop (top : Top) : Type 0 where
  pub format : (top.format ≡ 1) ⊎ (top.format ≡ 2)
  pub lookahead_min : 1 ≤ top.lookahead
  pub lookahead_max : top.lookahead ≤ MAX_TIME
  pub horizon : 1 ≤ top.horizon
  pub horizon_max : top.horizon ≤ MAX_HORIZON
  pub seed : top.seed ≤ MAX_SEED
  pub limit : 1 ≤ top.limit
  pub limit_max : top.limit ≤ MAX_LIMIT

-- a number from 1 to 2 is one of them
one_or_two : (n : ℕ) → 1 ≤ n → n ≤ 2 → (n ≡ 1) ⊎ (n ≡ 2)
one_or_two zero low high = absurd (omega arith)
one_or_two (suc zero) low high = inl refl
one_or_two (suc (suc zero)) low high = inr refl
one_or_two (suc (suc (suc n))) low high = absurd (omega arith)

-- numbers that are read are so
top_of-holds : (root : Data) (top : Top) → top_of root ≡ Ok top → IsTop top
top_of-holds root top h =
    let (format, e1, h1) = bind-Ok (integer_at 0 Format 1 2 (Some 1) root)
    (λ format. integer_at 0 Lookahead 1 MAX_TIME None root >>=
    (λ lookahead. integer_at 0 Horizon 1 MAX_HORIZON None root >>=
    (λ horizon. integer_at 0 Seed 0 MAX_SEED (Some 0) root >>=
    (λ seed. integer_at 0 Limit 1 MAX_LIMIT (Some USUAL_LIMIT) root >>=
    (λ limit. Ok (record {
      format = format;
      lookahead = lookahead;
      horizon = horizon;
      seed = seed;
      limit = limit;
    })))))) top h in
    let (lookahead, e2, h2) = bind-Ok (integer_at 0 Lookahead 1 MAX_TIME None root)
    (λ lookahead. integer_at 0 Horizon 1 MAX_HORIZON None root >>=
    (λ horizon. integer_at 0 Seed 0 MAX_SEED (Some 0) root >>=
    (λ seed. integer_at 0 Limit 1 MAX_LIMIT (Some USUAL_LIMIT) root >>=
    (λ limit. Ok (record {
      format = format;
      lookahead = lookahead;
      horizon = horizon;
      seed = seed;
      limit = limit;
    }))))) top h1 in
    let (horizon, e3, h3) = bind-Ok (integer_at 0 Horizon 1 MAX_HORIZON None root)
    (λ horizon. integer_at 0 Seed 0 MAX_SEED (Some 0) root >>=
    (λ seed. integer_at 0 Limit 1 MAX_LIMIT (Some USUAL_LIMIT) root >>=
    (λ limit. Ok (record {
      format = format;
      lookahead = lookahead;
      horizon = horizon;
      seed = seed;
      limit = limit;
    })))) top h2 in
    let (seed, e4, h4) = bind-Ok (integer_at 0 Seed 0 MAX_SEED (Some 0) root)
    (λ seed. integer_at 0 Limit 1 MAX_LIMIT (Some USUAL_LIMIT) root >>=
    (λ limit. Ok (record {
      format = format;
      lookahead = lookahead;
      horizon = horizon;
      seed = seed;
      limit = limit;
    }))) top h3 in
    let (limit, e5, h5) = bind-Ok (integer_at 0 Limit 1 MAX_LIMIT (Some USUAL_LIMIT) root)
    (λ limit. Ok (record {
      format = format;
      lookahead = lookahead;
      horizon = horizon;
      seed = seed;
      limit = limit;
    })) top h4 in
    let formats = integer_at-usual 0 Format 1 2 1 root format (omega arith) (omega arith) e1 in
    let aheads = integer_at-required 0 Lookahead 1 MAX_TIME root lookahead e2 in
    let horizons = integer_at-required 0 Horizon 1 MAX_HORIZON root horizon e3 in
    let seeds = integer_at-usual 0 Seed 0 MAX_SEED 0 root seed (omega arith) (omega arith) e4 in
    let limits = integer_at-usual 0 Limit 1 MAX_LIMIT USUAL_LIMIT root limit (omega arith) (omega arith) e5 in
    let made : Top = record { format = format; lookahead = lookahead; horizon = horizon; seed = seed; limit = limit } in
    subst (λ (t : Top). IsTop t) {x = made} (Ok-injective made top h5)
    (record {
      format = one_or_two format formats.0 formats.1;
      lookahead_min = aheads.0;
      lookahead_max = aheads.1;
      horizon = horizons.0;
      horizon_max = horizons.1;
      seed = seeds.1;
      limit = limits.0;
      limit_max = limits.1;
    })

-- a number other than 0 is 1 or more
not_zero : (n : ℕ) → (n == 0) ≡ false → 1 ≤ n
not_zero n h = grind (arith, nat_tests)

-- the tables of stations are 1 to MAX_STATIONS
stations_at-count : (root : Data) (ds : List Data) → stations_at root ≡ Ok ds
    → (1 ≤ length ds) × (length ds ≤ MAX_STATIONS)
stations_at-count root ds h =
    let (read, e1, h1) = bind-Ok (value_at 0 Station root >>= tables_of 0 Station) in_number ds h in
    let (some, h2) = if-Err (length read == 0)
    (if nat_lt MAX_STATIONS (length read) then Err (TooMany 0) else Ok read) ds (OutOfRange 0 Station) h1 in
    let (few, h3) = if-Err (nat_lt MAX_STATIONS (length read)) (Ok read) ds (TooMany 0) h2 in
    subst (λ (xs : List Data). (1 ≤ length xs) × (length xs ≤ MAX_STATIONS)) (Ok-injective read ds h3)
    (not_zero (length read) some, ltb-false MAX_STATIONS (length read) few)

-- ---- sites_of_tables, model_of

-- the network of such a top and of the stations of these tables meets the rules
sites_of_tables-holds : (top : Top) (ds : List Data) (sites : List Site) → IsTop top
    → (1 ≤ length ds) × (length ds ≤ MAX_STATIONS) → sites_of_tables top ds ≡ Ok sites → IsNet (with_sites top sites)
sites_of_tables-holds top ds sites is count h =
    let (drafts, e1, h1) = bind-Ok (drafts_of top.format [] 1 ds) (λ drafts. sites_of top.lookahead drafts 1 drafts)
    sites h in
    let read : AreDrafts top.format [] drafts (length ds) =
    drafts_of-holds top.format [] 1 ds drafts (omega (arith, count.1)) e1 in
    let placed : AreResolvedSites top.format top.lookahead drafts drafts sites =
    sites_of-holds top.format top.lookahead drafts 1 drafts sites read.all h1 in
    let size : length sites ≡ length drafts = length-sites top drafts sites placed in
    record {
      format = is.format;
      lookahead_min = is.lookahead_min;
      lookahead_max = is.lookahead_max;
      horizon = is.horizon;
      horizon_max = is.horizon_max;
      seed = is.seed;
      limit = is.limit;
      limit_max = is.limit_max;
      nonempty = omega (arith, size, read.count, count.0);
      at_most = omega (arith, size, read.count, count.1);
      distinct = subst (λ (names : List (List ℕ)). AreDistinct names) (sym placed.names) read.distinct;
      sites = sites_are top drafts sites placed;
    }

-- every model that a tree states meets the rules
pub model_of-IsNet : (root : Data) (net : Net) → model_of root ≡ Ok net → IsNet net
unfolding model_of
model_of-IsNet root net h =
    let (known, e1, h1) = bind-Ok (only_known 0 top_keys root)
    (λ _. top_of root >>= (λ top. stations_at root >>=
    (λ ds. sites_of_tables top ds >>= (λ sites. Ok (with_sites top sites))))) net h in
    let (top, e2, h2) = bind-Ok (top_of root)
    (λ top. stations_at root >>= (λ ds. sites_of_tables top ds >>= (λ sites. Ok (with_sites top sites)))) net h1 in
    let (ds, e3, h3) = bind-Ok (stations_at root)
    (λ ds. sites_of_tables top ds >>= (λ sites. Ok (with_sites top sites))) net h2 in
    let (sites, e4, h4) = bind-Ok (sites_of_tables top ds) (λ sites. Ok (with_sites top sites)) net h3 in
    let made : Net = with_sites top sites in
    subst (λ (n : Net). IsNet n) {x = made} (Ok-injective made net h4)
    (sites_of_tables-holds top ds sites (top_of-holds root top e2) (stations_at-count root ds e3) e4)
