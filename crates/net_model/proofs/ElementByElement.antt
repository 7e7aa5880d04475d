-- A list that is read element by element: the part so far, and the rest.
use Rattle.std.proofs.Common.{◌≡◌, refl, ap, sym, ◌∙◌, ℕ, ◌+◌, ◌<◌, List, [], ◌∷◌, ◌++◌, length, map, drop, get_or}
use Rattle.std.proofs.Common.{position, option_map, unwrap_or, Some, None, Bool, Result, Ok, Err, append_assoc}
use Rattle.std.specs.List.{list_any}
use Rattle.std.specs.Str.{bytes_eq}
use Rattle.std.proofs.lemmas.List.{drop_more, map-append}
use Rattle.std.proofs.lemmas.Option.{slice_get-map, slice_get_read}
use Rattle.toml.specs.View.{view}
use Rattle.toml.specs.declared.value.Value.{Value}
use Rattle.net_model.specs.declared.draft.Draft.{Draft}
use Rattle.net_model.specs.declared.fault.ModelFault.{ModelFault}
use Rattle.net_model.specs.declared.fault.ModelFault.TheVariants.{UnknownStation}
use Rattle.net_model.specs.declared.links.NamedLink.{NamedLink}
use Rattle.net_model.specs.declared.station.Kind.TheVariants.{Sink}
use Rattle.sim_base.specs.Chain.{◌>>=◌}
use Rattle.net_model.specs.declared.station.Station.{Station}
use Rattle.net_model.specs.Drafts.{DraftSite, as_draft, draft_of, drafts_of, has_name}
use Rattle.net_model.specs.Net.{Site}
use Rattle.net_model.specs.Resolving.{kind_after, link_along, link_to, link_of_named, site_of_draft, sites_of}
use Rattle.net_model.specs.Sites.{as_site}
use Rattle.sim_base.proofs.ListLaws.{position-map}

-- ---- after

-- the rest that is read, after the elements so far
abbrev pub after : {A : Type 0} → List A → Result (List A) ModelFault → Result (List A) ModelFault
after done (Ok rest) = Ok (done ++ rest)
after done (Err e) = Err e

-- an element moves from the rest to the elements so far
after-cons : {A : Type 0} (done : List A) (x : A) (rest : Result (List A) ModelFault)
    → after done (rest >>= (λ xs. Ok (x ∷ xs))) ≡ after (done ++ x ∷ []) rest
after-cons done x (Ok xs) = ap Ok (sym (append_assoc done (x ∷ []) xs))
after-cons done x (Err e) = refl

-- one element is read
after-one : {A : Type 0} (done : List A) (r : Result A ModelFault) (rest : A → Result (List A) ModelFault) (x : A)
    → r ≡ Ok x → after done (r >>= (λ y. rest y >>= (λ ys. Ok (y ∷ ys)))) ≡ after (done ++ x ∷ []) (rest x)
after-one done r rest x h =
    ap (λ s. after done (s >>= (λ y. rest y >>= (λ ys. Ok (y ∷ ys))))) h ∙ after-cons done x (rest x)

-- ---- map, list_any, has_name, position

-- the element at an index, and those after it
map-drop : {X Y : Type 0} (f : X → Y) (xs : List X) (i : ℕ) (d : X) → i < length xs
    → map f (drop i xs) ≡ f (get_or xs i d) ∷ map f (drop (i + 1) xs)
map-drop f xs i d h = ap (map f) (drop_more xs i d h)

-- an image passes if its original does
list_any-map : {X Y : Type 0} (p : Y → Bool) (f : X → Y) (xs : List X)
    → list_any p (map f xs) ≡ list_any (λ x. p (f x)) xs
list_any-map p f [] = refl
list_any-map p f (x ∷ xs) = rw (list_any-map p f xs) refl

-- a name is taken among drafts as plain data if a draft has it
pub has_name_drafts : (name : List ℕ) (drafts : List Draft)
    → has_name name (map as_draft drafts) ≡ list_any (λ draft. bytes_eq draft.name name) drafts
has_name_drafts name drafts = list_any-map (λ draft. bytes_eq draft.name name) as_draft drafts

-- the first draft of a name has the same place among drafts as plain data
position_drafts : (name : List ℕ) (drafts : List Draft)
    → position (λ draft. bytes_eq draft.name name) (map as_draft drafts) ≡ position
    (λ draft. bytes_eq draft.name name) drafts
position_drafts name drafts = position-map (λ draft. bytes_eq draft.name name) as_draft drafts

-- ---- sites_of, drafts_of

-- one more station is resolved
pub sites_of-step : (lookahead : ℕ) (all : List DraftSite) (drafts : List Draft) (done new : List Station) (i : ℕ)
    (draft : Draft) (station : Station) (whole : Result (List Site) ModelFault)
    → i < length drafts → draft ≡ get_or drafts i draft
    → Ok (as_site station) ≡ site_of_draft lookahead all (i + 1) (as_draft draft)
    → new ≡ done ++ station ∷ []
    → whole ≡ after (map as_site done) (sites_of lookahead all (i + 1) (map as_draft (drop i drafts)))
    → whole ≡ after (map as_site new) (sites_of lookahead all (i + 1 + 1) (map as_draft (drop (i + 1) drafts)))
sites_of-step lookahead all drafts done new i draft station whole lt is read push so_far =
    let here : map as_draft (drop i drafts) ≡ as_draft draft ∷ map as_draft (drop (i + 1) drafts) =
    map-drop as_draft drafts i draft lt ∙ ap (λ d. as_draft d ∷ map as_draft (drop (i + 1) drafts)) (sym is) in
    so_far
    ∙ (ap (λ ds. after (map as_site done) (sites_of lookahead all (i + 1) ds)) here
    ∙ (after-one (map as_site done) (site_of_draft lookahead all (i + 1) (as_draft draft))
    (λ site. sites_of lookahead all (i + 1 + 1) (map as_draft (drop (i + 1) drafts))) (as_site station) (sym read)
    ∙ ap (λ sites. after sites (sites_of lookahead all (i + 1 + 1) (map as_draft (drop (i + 1) drafts))))
    (sym (ap (map as_site) push ∙ map-append as_site done (station ∷ [])))))

-- one more station is read
pub drafts_of-step : (format : ℕ) (tables : List Value) (done new : List Draft) (i : ℕ) (table : Value) (draft : Draft)
    (whole : Result (List DraftSite) ModelFault)
    → i < length tables → table ≡ get_or tables i table
    → Ok (as_draft draft) ≡ draft_of format (map as_draft done) (i + 1) (view table)
    → new ≡ done ++ draft ∷ []
    → whole ≡ after (map as_draft done) (drafts_of format (map as_draft done) (i + 1) (map view (drop i tables)))
    → whole ≡ after (map as_draft new)
    (drafts_of format (map as_draft new) (i + 1 + 1) (map view (drop (i + 1) tables)))
drafts_of-step format tables done new i table draft whole lt is read push so_far =
    let here : map view (drop i tables) ≡ view table ∷ map view (drop (i + 1) tables) =
    map-drop view tables i table lt ∙ ap (λ d. view d ∷ map view (drop (i + 1) tables)) (sym is) in
    so_far
    ∙ (ap (λ ds. after (map as_draft done) (drafts_of format (map as_draft done) (i + 1) ds)) here
    ∙ (after-one (map as_draft done) (draft_of format (map as_draft done) (i + 1) (view table))
    (λ d. drafts_of format (map as_draft done ++ d ∷ []) (i + 1 + 1) (map view (drop (i + 1) tables)))
    (as_draft draft) (sym read)
    ∙ ap (λ drafts. after drafts (drafts_of format drafts (i + 1 + 1) (map view (drop (i + 1) tables))))
    (sym (ap (map as_draft) push ∙ map-append as_draft done (draft ∷ [])))))

-- ---- link_of_named

-- the receiver of a link, and its kind
kind_after-read : (drafts : List Draft) (i : ℕ) (draft : Draft) → i < length drafts → draft ≡ get_or drafts i draft
    → kind_after i (map as_draft drafts) ≡ (get_or drafts i draft).kind
kind_after-read drafts i draft lt is =
    ap (λ o. unwrap_or (option_map (λ d. d.kind) o) Sink) (slice_get-map as_draft drafts i
    ∙ ap (option_map as_draft) (slice_get_read drafts (length drafts) i draft refl lt is)) ∙ ap (λ d. d.kind) is

-- a link is resolved to the first station that has the name of its receiver
pub link_of_named-Some : (lookahead : ℕ) (drafts : List Draft) (station : ℕ) (link : NamedLink) (i : ℕ) (draft : Draft)
    → Some i ≡ position (λ d. bytes_eq d.name link.to) drafts → i < length drafts → draft ≡ get_or drafts i draft
    → link_to lookahead station link i (get_or drafts i draft).kind ≡ link_of_named lookahead
    (map as_draft drafts) station link
link_of_named-Some lookahead drafts station link i draft h lt is =
    sym (ap (link_along lookahead (map as_draft drafts) station link) (position_drafts link.to drafts ∙ sym h)
    ∙ ap (link_to lookahead station link i) (kind_after-read drafts i draft lt is))

-- a link to a name that no station has is refused as one to an unknown station
pub link_of_named-None : (lookahead : ℕ) (drafts : List Draft) (station : ℕ) (link : NamedLink)
    → None ≡ position (λ d. bytes_eq d.name link.to) drafts
    → Err (UnknownStation station) ≡ link_of_named lookahead (map as_draft drafts) station link
link_of_named-None lookahead drafts station link h =
    sym (ap (link_along lookahead (map as_draft drafts) station link) (position_drafts link.to drafts ∙ sym h))
