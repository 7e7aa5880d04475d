-- Properties of the stations that are read, before their links are resolved.
use Rattle.std.proofs.Common.{◌≡◌, ◌≢◌, refl, ap, sym, ◌∙◌, subst, ℕ, ◌+◌, ◌≤◌, ◌==◌, nat_lt, eq-eqb, Bool, true, false}
use Rattle.std.proofs.Common.{codes, if◌then◌else◌, List, [], ◌∷◌, ◌++◌, length, map, Option, Some, None, Ok, arith}
use Rattle.std.specs.List.{AllByRecursion}
use Rattle.std.specs.Str.{bytes_eq}
use Rattle.std.proofs.lemmas.Bool.{false≢true, or_parts, ltb-false}
use Rattle.std.proofs.lemmas.List.Folds.{list_any-append}
use Rattle.std.proofs.lemmas.List.Elements.{All-from_recursion}
use Rattle.std.proofs.lemmas.List.Kept.{AllPairs-cons}
use Rattle.std.proofs.lemmas.Slice.Eq.{bytes_eq-Decides}
use Rattle.toml.specs.Data.{Data, get}
use Rattle.sim_base.specs.Names.{is_name, AreDistinct}
use Rattle.sim_base.specs.Weights.{IsWeight}
use Rattle.net_model.specs.declared.fault.ModelFault.TheVariants.{BadName, NameTwice, TooMany}
use Rattle.net_model.specs.declared.field.Field.TheVariants.{Name, Stream, Every, Jobs, Class, Servers, Room, Service}
use Rattle.net_model.specs.declared.field.Field.TheVariants.{Order, Hold, By, Link, To, Delay as DelayField, Weight}
use Rattle.net_model.specs.declared.keys.KindWord.{KindWord}
use Rattle.net_model.specs.declared.keys.KindWord.TheVariants.{Source as SourceWord, Server as ServerWord}
use Rattle.net_model.specs.declared.keys.KindWord.TheVariants.{Delay as DelayWord, Router as RouterWord}
use Rattle.net_model.specs.declared.keys.KindWord.TheVariants.{Sink as SinkWord}
use Rattle.net_model.specs.declared.links.NamedLink.{NamedLink}
use Rattle.net_model.specs.declared.station.Kind.{Kind}
use Rattle.net_model.specs.declared.station.Kind.TheVariants.{Source, Server, Delay, Router, Sink}
use Rattle.sim_base.specs.Chain.{◌>>=◌}
use Rattle.net_model.specs.Drafts.{DraftSite, draft_of, drafts_of, has_name, no_analyst, station_name_at, new_name}
use Rattle.net_model.specs.Fields.{key_of}
use Rattle.net_model.specs.Keys.{only_known, station_keys, link_keys}
use Rattle.net_model.specs.Kinds.{by_word, class_at, delay_of, found_order, kind_of, kind_word_at}
use Rattle.net_model.specs.Kinds.{known_word, order_at, router_of, server_of, source_of}
use Rattle.net_model.specs.NamedLinks.{few_enough, each_link, link_of, link_tables, links_of}
use Rattle.net_model.specs.Reading.{integer_at, name_at, span_at, tables_of, text_at}
use Rattle.net_model.specs.Net.{is_sink}
use Rattle.net_model.specs.Rules.{IsKind, IsOfFormat1}
use Rattle.net_model.proofs.Bounds.{if-Err, Ok-injective, integer_at-required, integer_at-usual}
use Rattle.net_model.proofs.Bounds.{name_at-is_name, span_at-IsRange}
use Rattle.sim_base.proofs.Chain.{bind-Ok}
use Rattle.net_model.specs.declared.limits.TheConstants.{MAX_CLASS, MAX_JOBS, MAX_LINKS, MAX_ROOM}
use Rattle.net_model.specs.declared.limits.TheConstants.{MAX_SEED, MAX_SERVERS, MAX_TIME, MAX_WEIGHT}

-- ---- kind_of

-- a class that is read is in its range, and 1 in format 1, by the test of the format
class_at-cases : (station : ℕ) (d : Data) (n : ℕ) (b : Bool)
    → (if b then Ok 1 else integer_at station Class 1 MAX_CLASS (Some 1) d) ≡ Ok n
    → (1 ≤ n) × (n ≤ MAX_CLASS) × (b ≡ true → n ≡ 1)
class_at-cases station d n true h = let same = Ok-injective 1 n h in
    (omega (arith, same), omega (arith, same), λ _. sym same)
class_at-cases station d n false h =
    let (low, high) = integer_at-usual station Class 1 MAX_CLASS 1 d n (omega arith) (omega arith) h in
    (low, high, λ e. absurd (false≢true e))

-- and an order that is read is by arrival in format 1
order_at-cases : (station : ℕ) (d : Data) (x : Bool) (b : Bool)
    → (if b then Ok false else found_order station (get (key_of Order) d)) ≡ Ok x → b ≡ true → x ≡ false
order_at-cases station d x true h e = sym (Ok-injective false x h)
order_at-cases station d x false h e = absurd (false≢true e)

-- the word of a sink
abbrev is_sink_word : KindWord → Bool
is_sink_word SinkWord = true
is_sink_word _ = false

-- a station keeps the rules of its kind, and is a sink or not
abbrev KindHolds : ℕ → Bool → Kind → Type 0
KindHolds format sink kind = IsKind kind × (format ≡ 1 → IsOfFormat1 kind) × (is_sink kind ≡ sink)

-- so does a source that is read
source_of-holds : (format station : ℕ) (d : Data) (kind : Kind) → source_of format station d ≡ Ok kind
    → KindHolds format false kind
source_of-holds format station d kind h =
    let (every, e1, h1) = bind-Ok (span_at station Every 1 d)
    (λ every. integer_at station Jobs 0 MAX_JOBS None d >>=
    (λ jobs. class_at format station d >>= (λ class. Ok (Source every.lo every.hi jobs class)))) kind h in
    let (jobs, e2, h2) = bind-Ok (integer_at station Jobs 0 MAX_JOBS None d)
    (λ jobs. class_at format station d >>= (λ class. Ok (Source every.lo every.hi jobs class))) kind h1 in
    let (class, e3, h3) = bind-Ok (class_at format station d) (λ class. Ok (Source every.lo every.hi jobs class)) kind
    h2 in
    let bounds = class_at-cases station d class (format == 1) e3 in
    let does : Kind = Source every.lo every.hi jobs class in
    subst (λ (k : Kind). KindHolds format false k) {x = does} (Ok-injective does kind h3) (
      record {
        every = span_at-IsRange station Every 1 d every e1;
        at_most = (integer_at-required station Jobs 0 MAX_JOBS d jobs e2).1;
        first = bounds.0;
        last = bounds.1;
      },
      λ one. bounds.2 (eq-eqb format 1 one),
      refl {a = false},
    )

-- a server
server_of-holds : (format station : ℕ) (d : Data) (kind : Kind) → server_of format station d ≡ Ok kind
    → KindHolds format false kind
server_of-holds format station d kind h =
    let (servers, e1, h1) = bind-Ok (integer_at station Servers 1 MAX_SERVERS None d)
    (λ servers. integer_at station Room 0 MAX_ROOM None d >>=
    (λ room. span_at station Service 1 d >>=
    (λ service. order_at format station d >>=
    (λ by_class. Ok (Server servers room service.lo service.hi by_class))))) kind h in
    let (room, e2, h2) = bind-Ok (integer_at station Room 0 MAX_ROOM None d)
    (λ room. span_at station Service 1 d >>=
    (λ service. order_at format station d >>=
    (λ by_class. Ok (Server servers room service.lo service.hi by_class)))) kind h1 in
    let (service, e3, h3) = bind-Ok (span_at station Service 1 d)
    (λ service. order_at format station d >>= (λ by_class. Ok (Server servers room service.lo service.hi by_class)))
    kind h2 in
    let (by_class, e4, h4) = bind-Ok (order_at format station d)
    (λ by_class. Ok (Server servers room service.lo service.hi by_class)) kind h3 in
    let bounds = integer_at-required station Servers 1 MAX_SERVERS d servers e1 in
    let does : Kind = Server servers room service.lo service.hi by_class in
    subst (λ (k : Kind). KindHolds format false k) {x = does} (Ok-injective does kind h4) (
      record {
        at_least = bounds.0;
        at_most = bounds.1;
        small = (integer_at-required station Room 0 MAX_ROOM d room e2).1;
        service = span_at-IsRange station Service 1 d service e3;
      },
      λ one. order_at-cases station d by_class (format == 1) e4 (eq-eqb format 1 one),
      refl {a = false},
    )

-- a delay
delay_of-holds : (format station : ℕ) (d : Data) (kind : Kind) → delay_of station d ≡ Ok kind
    → KindHolds format false kind
delay_of-holds format station d kind h =
    let (hold, e1, h1) = bind-Ok (span_at station Hold 0 d) (λ hold. Ok (Delay hold.lo hold.hi)) kind h in
    let does : Kind = Delay hold.lo hold.hi in
    subst (λ (k : Kind). KindHolds format false k) {x = does} (Ok-injective does kind h1)
    (span_at-IsRange station Hold 0 d hold e1, λ _. tt, refl {a = false})

-- a router
router_of-holds : (format station : ℕ) (d : Data) (kind : Kind) → router_of station d ≡ Ok kind
    → KindHolds format false kind
router_of-holds format station d kind h =
    let (text, e1, h1) = bind-Ok (text_at station By d)
    (λ text. known_word station By (by_word text) >>= (λ turn. Ok (Router turn))) kind h in
    let (turn, e2, h2) = bind-Ok (known_word station By (by_word text)) (λ turn. Ok (Router turn)) kind h1 in
    let does : Kind = Router turn in
    subst (λ (k : Kind). KindHolds format false k) {x = does} (Ok-injective does kind h2)
    (tt, λ _. tt, refl {a = false})

-- a station of any kind
kind_of-holds : (format station : ℕ) (word : KindWord) (d : Data) (kind : Kind)
    → kind_of format station word d ≡ Ok kind → KindHolds format (is_sink_word word) kind
kind_of-holds format station SourceWord d kind h = source_of-holds format station d kind h
kind_of-holds format station ServerWord d kind h = server_of-holds format station d kind h
kind_of-holds format station DelayWord d kind h = delay_of-holds format station d kind h
kind_of-holds format station RouterWord d kind h = router_of-holds format station d kind h
kind_of-holds format station SinkWord d kind h =
    subst (λ (k : Kind). KindHolds format true k) (Ok-injective Sink kind h) (tt, λ _. tt, refl)

-- ---- link_of, each_link, links_of

-- a named link keeps its bounds
pub record IsNamedLink (link : NamedLink) : Type 0 where
  pub small : link.delay ≤ MAX_TIME
  pub weight : IsWeight link.weight

-- so does a link that is read
link_of-holds : (station : ℕ) (d : Data) (link : NamedLink) → link_of station d ≡ Ok link → IsNamedLink link
link_of-holds station d link h =
    let (known, e1, h1) = bind-Ok (only_known station link_keys d)
    (λ _. name_at station To d >>= (λ to. integer_at station DelayField 1 MAX_TIME None d >>=
    (λ delay. integer_at station Weight 1 MAX_WEIGHT (Some 1) d >>=
    (λ weight. Ok (record { to = to; delay = delay; weight = weight }))))) link h in
    let (to, e2, h2) = bind-Ok (name_at station To d)
    (λ to. integer_at station DelayField 1 MAX_TIME None d >>=
    (λ delay. integer_at station Weight 1 MAX_WEIGHT (Some 1) d >>=
    (λ weight. Ok (record { to = to; delay = delay; weight = weight })))) link h1 in
    let (delay, e3, h3) = bind-Ok (integer_at station DelayField 1 MAX_TIME None d)
    (λ delay. integer_at station Weight 1 MAX_WEIGHT (Some 1) d >>=
    (λ weight. Ok (record { to = to; delay = delay; weight = weight }))) link h2 in
    let (weight, e4, h4) = bind-Ok (integer_at station Weight 1 MAX_WEIGHT (Some 1) d)
    (λ weight. Ok (record { to = to; delay = delay; weight = weight })) link h3 in
    let bounds = integer_at-usual station Weight 1 MAX_WEIGHT 1 d weight (omega arith) (omega arith) e4 in
    let made : NamedLink = record { to = to; delay = delay; weight = weight } in
    subst (λ (l : NamedLink). IsNamedLink l) {x = made} (Ok-injective made link h4)
    (record {
      small = (integer_at-required station DelayField 1 MAX_TIME d delay e3).1;
      weight = record { heavy = bounds.0; light = bounds.1 };
    })

-- so does each, and they are as many as their tables
each_link-holds : (station : ℕ) (ds : List Data) (links : List NamedLink) → each_link station ds ≡ Ok links
    → AllByRecursion IsNamedLink links × (length links ≡ length ds)
each_link-holds station [] links h = subst (λ (ls : List NamedLink). AllByRecursion IsNamedLink ls × (length ls ≡ 0))
    (Ok-injective [] links h) (tt, refl)
each_link-holds station (d ∷ ds) links h =
    let (link, e1, h1) = bind-Ok (link_of station d) (λ link. each_link station ds >>= (λ links. Ok (link ∷ links)))
    links h in
    let (others, e2, h2) = bind-Ok (each_link station ds) (λ links. Ok (link ∷ links)) links h1 in
    let (all, count) = each_link-holds station ds others e2 in
    subst (λ (ls : List NamedLink). AllByRecursion IsNamedLink ls × (length ls ≡ length (d ∷ ds)))
    (Ok-injective (link ∷ others) links h2) ((link_of-holds station d link e1, all), omega (arith, count))

-- these are not too many
link_tables-few : (station : ℕ) (found : Option Data) (ds : List Data) → link_tables station found ≡ Ok ds
    → length ds ≤ MAX_LINKS
link_tables-few station None ds h = let same = ap length (Ok-injective [] ds h) in omega (arith, same)
link_tables-few station (Some d) ds h =
    let (read, e1, h1) = bind-Ok (tables_of station Link d) (few_enough station) ds h in
    let (few, same) = if-Err (nat_lt MAX_LINKS (length read)) (Ok read) ds (TooMany station) h1 in
    let size = ap length (Ok-injective read ds same) in
    omega (arith, size, ltb-false MAX_LINKS (length read) few)

-- the links of a station, which is a sink or not
abbrev LinksHold : Bool → List NamedLink → Type 0
LinksHold sink links = AllByRecursion IsNamedLink links × (length links ≤ MAX_LINKS) × (sink ≡ true → length links ≡ 0)

-- a station that is no sink
links_of-open : (station : ℕ) (d : Data) (links : List NamedLink)
    → (link_tables station (get (key_of Link) d) >>= each_link station) ≡ Ok links → LinksHold false links
links_of-open station d links h =
    let (ds, e1, h1) = bind-Ok (link_tables station (get (key_of Link) d)) (each_link station) links h in
    let (all, count) = each_link-holds station ds links h1 in
    (all, omega (arith, count, link_tables-few station (get (key_of Link) d) ds e1), λ e. absurd (false≢true e))

-- and one of any kind
links_of-holds : (station : ℕ) (word : KindWord) (d : Data) (links : List NamedLink)
    → links_of station word d ≡ Ok links → LinksHold (is_sink_word word) links
links_of-holds station SourceWord d links h = links_of-open station d links h
links_of-holds station ServerWord d links h = links_of-open station d links h
links_of-holds station DelayWord d links h = links_of-open station d links h
links_of-holds station RouterWord d links h = links_of-open station d links h
links_of-holds station SinkWord d links h = subst (λ (ls : List NamedLink). LinksHold true ls) (Ok-injective [] links h)
    (tt, omega arith, λ _. refl)

-- ---- draft_of

-- a station that is read
pub record IsDraft (format : ℕ) (draft : DraftSite) : Type 0 where
  pub named : is_name draft.name ≡ true
  pub no_analyst : draft.name ≢ codes "analyst"
  pub stream : draft.stream ≤ MAX_SEED
  pub kind : IsKind draft.kind
  pub of_format : format ≡ 1 → IsOfFormat1 draft.kind
  pub at_most : length draft.links ≤ MAX_LINKS
  pub links : AllByRecursion IsNamedLink draft.links
  pub closed : is_sink draft.kind ≡ true → length draft.links ≡ 0

-- a name of a station is a name, not `analyst`, and new
abbrev NameHolds : List DraftSite → List ℕ → Type 0
NameHolds earlier name = (is_name name ≡ true) × (name ≢ codes "analyst") × (has_name name earlier ≡ false)

-- a name that is not found to be `analyst` is another
bytes_eq-differs : (name : List ℕ) → bytes_eq name (codes "analyst") ≡ false → name ≢ codes "analyst"
bytes_eq-differs name h same = false≢true (sym h ∙ (bytes_eq-Decides name (codes "analyst")).1 same)

-- so is the name that is read
station_name_at-holds : (station : ℕ) (earlier : List DraftSite) (d : Data) (name : List ℕ)
    → station_name_at station earlier d ≡ Ok name → NameHolds earlier name
station_name_at-holds station earlier d name h =
    let (second, e1, h1) = bind-Ok (name_at station Name d >>= no_analyst station) (new_name station earlier) name h in
    let (first, e2, h2) = bind-Ok (name_at station Name d) (no_analyst station) second e1 in
    let (other, same) = if-Err (bytes_eq first (codes "analyst")) (Ok first) second (BadName station) h2 in
    let (free, same_2) = if-Err (has_name second earlier) (Ok second) name (NameTwice station) h1 in
    let start : (is_name second ≡ true) × (second ≢ codes "analyst") =
    subst (λ (n : List ℕ). (is_name n ≡ true) × (n ≢ codes "analyst")) (Ok-injective first second same)
    (name_at-is_name station Name d first e2, bytes_eq-differs first other) in
    subst (λ (n : List ℕ). NameHolds earlier n) (Ok-injective second name same_2) (start.0, start.1, free)

-- a property of the number of links under one test holds under an equal test
links-same_test : (a b : Bool) (n : ℕ) → a ≡ b → (b ≡ true → n ≡ 0) → a ≡ true → n ≡ 0
links-same_test a b n same f e = f (sym same ∙ e)

-- a station that is read keeps to the rules, with a new name
draft_of-holds : (format : ℕ) (earlier : List DraftSite) (station : ℕ) (d : Data) (draft : DraftSite)
    → station ≤ MAX_SEED → draft_of format earlier station d ≡ Ok draft
    → IsDraft format draft × (has_name draft.name earlier ≡ false)
draft_of-holds format earlier station d draft near h =
    let (name, e1, h1) = bind-Ok (station_name_at station earlier d)
    (λ name. kind_word_at station d >>=
    (λ word. only_known station (station_keys format word) d >>=
    (λ _. integer_at station Stream 0 MAX_SEED (Some station) d >>=
    (λ stream. kind_of format station word d >>=
    (λ kind. links_of station word d >>=
    (λ links. Ok (record { name = name; kind = kind; stream = stream; links = links }))))))) draft h in
    let (word, e2, h2) = bind-Ok (kind_word_at station d)
    (λ word. only_known station (station_keys format word) d >>=
    (λ _. integer_at station Stream 0 MAX_SEED (Some station) d >>=
    (λ stream. kind_of format station word d >>=
    (λ kind. links_of station word d >>=
    (λ links. Ok (record { name = name; kind = kind; stream = stream; links = links })))))) draft h1 in
    let (known, e3, h3) = bind-Ok (only_known station (station_keys format word) d)
    (λ _. integer_at station Stream 0 MAX_SEED (Some station) d >>=
    (λ stream. kind_of format station word d >>=
    (λ kind. links_of station word d >>=
    (λ links. Ok (record { name = name; kind = kind; stream = stream; links = links }))))) draft h2 in
    let (stream, e4, h4) = bind-Ok (integer_at station Stream 0 MAX_SEED (Some station) d)
    (λ stream. kind_of format station word d >>=
    (λ kind. links_of station word d >>=
    (λ links. Ok (record { name = name; kind = kind; stream = stream; links = links })))) draft h3 in
    let (kind, e5, h5) = bind-Ok (kind_of format station word d)
    (λ kind. links_of station word d >>=
    (λ links. Ok (record { name = name; kind = kind; stream = stream; links = links }))) draft h4 in
    let (links, e6, h6) = bind-Ok (links_of station word d)
    (λ links. Ok (record { name = name; kind = kind; stream = stream; links = links })) draft h5 in
    let named = station_name_at-holds station earlier d name e1 in
    let does = kind_of-holds format station word d kind e5 in
    let leads = links_of-holds station word d links e6 in
    let drawn = integer_at-usual station Stream 0 MAX_SEED station d stream (omega arith) (omega arith) e4 in
    let made : DraftSite = record { name = name; kind = kind; stream = stream; links = links } in
    subst (λ (x : DraftSite). IsDraft format x × (has_name x.name earlier ≡ false)) {x = made}
    (Ok-injective made draft h6) (
      record {
        named = named.0;
        no_analyst = named.1;
        stream = omega (arith, drawn.1);
        kind = does.0;
        of_format = does.1;
        at_most = leads.1;
        links = leads.0;
        closed = links-same_test (is_sink kind) (is_sink_word word) (length links) does.2 leads.2;
      },
      named.2,
    )

-- ---- drafts_of

-- names that are new after one more station are new without it, and differ from its own
has_name-append : (earlier : List DraftSite) (draft : DraftSite) (rest : List DraftSite)
    → AllByRecursion (λ x. has_name x.name (earlier ++ draft ∷ []) ≡ false) rest
    → AllByRecursion (λ x. has_name x.name earlier ≡ false) rest × AllByRecursion (λ y. bytes_eq draft.name y ≡ false)
    (map (λ x. x.name) rest)
has_name-append earlier draft [] h = (tt, tt)
has_name-append earlier draft (x ∷ rest) h =
    let (old, own) = or_parts (has_name x.name earlier) (has_name x.name (draft ∷ []))
    (sym (list_any-append (λ y. bytes_eq y.name x.name) earlier (draft ∷ [])) ∙ h.0) in
    let (other, none) = or_parts (bytes_eq draft.name x.name) false own in
    let (olds, others) = has_name-append earlier draft rest h.1 in
    ((old, olds), (other, others))

-- the stations that are read
pub record AreDrafts (format : ℕ) (earlier drafts : List DraftSite) (n : ℕ) : Type 0 where
  pub all : AllByRecursion (IsDraft format) drafts
  pub new : AllByRecursion (λ x. has_name x.name earlier ≡ false) drafts
  pub distinct : AreDistinct (map (λ x. x.name) drafts)
  pub count : length drafts ≡ n

-- an empty list of names has no two that are equal
AreDistinct-empty : AreDistinct []
AreDistinct-empty = λ i j d below within. absurd (omega arith)

-- a name that is equal to none of others that are distinct, and these
AreDistinct-cons : (name : List ℕ) (names : List (List ℕ)) → AllByRecursion (λ x. bytes_eq name x ≡ false) names
    → AreDistinct names → AreDistinct (name ∷ names)
AreDistinct-cons name names other distinct =
    AllPairs-cons (λ a b. bytes_eq a b ≡ false) name names
    (All-from_recursion (λ x. bytes_eq name x ≡ false) names other) distinct

-- stations whose numbers may be those of their streams keep to the rules and have new and distinct names, one a table
pub drafts_of-holds : (format : ℕ) (earlier : List DraftSite) (station : ℕ) (ds : List Data) (drafts : List DraftSite)
    → station + length ds ≤ MAX_SEED → drafts_of format earlier station ds ≡ Ok drafts
    → AreDrafts format earlier drafts (length ds)
drafts_of-holds format earlier station [] drafts near h =
    subst (λ (xs : List DraftSite). AreDrafts format earlier xs 0) (Ok-injective [] drafts h)
    (record { all = tt; new = tt; distinct = AreDistinct-empty; count = refl })
drafts_of-holds format earlier station (d ∷ ds) drafts near h =
    let (draft, e1, h1) = bind-Ok (draft_of format earlier station d)
    (λ draft. drafts_of format (earlier ++ draft ∷ []) (station + 1) ds >>= (λ drafts. Ok (draft ∷ drafts))) drafts
    h in
    let (rest, e2, h2) = bind-Ok (drafts_of format (earlier ++ draft ∷ []) (station + 1) ds)
    (λ drafts. Ok (draft ∷ drafts)) drafts h1 in
    let first = draft_of-holds format earlier station d draft (omega arith) e1 in
    let others = drafts_of-holds format (earlier ++ draft ∷ []) (station + 1) ds rest (omega arith) e2 in
    let (olds, own) = has_name-append earlier draft rest others.new in
    subst (λ (xs : List DraftSite). AreDrafts format earlier xs (length (d ∷ ds)))
    (Ok-injective (draft ∷ rest) drafts h2)
    (record {
      all = (first.0, others.all);
      new = (first.1, olds);
      distinct = AreDistinct-cons draft.name (map (λ x. x.name) rest) own others.distinct;
      count = omega (arith, others.count);
    })
