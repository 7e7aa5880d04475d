-- Texts of lines.
use Rattle.std.proofs.Common.{◌≡◌, ℕ, ◌+◌, ◌≤◌, List, [], ◌∷◌, ◌++◌, length, Bool, true, false}
use Rattle.std.proofs.Common.{refl, sym, ap, ◌∙◌, Option, Some, None, arith, subst, append_assoc, append-nil, ◌==◌}
use Rattle.std.proofs.Common.{eqb-true}
use Rattle.std.specs.Prelude.{◌&&◌, if◌then◌else◌, option_map, Result, Ok, Err}
use Rattle.std.specs.List.{AllByRecursion, join_with_byte, flat_map, slice_split, onto_first}
use Rattle.std.proofs.lemmas.Bool.{and_parts}
use Rattle.std.proofs.lemmas.List.{nil_from_length}
use Rattle.std.proofs.lemmas.List.Splits.{slice_split-cons_no, slice_split-cons_yes, join_with_byte-slice_split}
use Rattle.std.proofs.lemmas.List.Splits.{length-slice_split}
use Rattle.snapshot_lines.specs.Texts.{is_newline, ended, or_line, read_parts, Leads, StopsAt, IsOneLine}
use Rattle.snapshot_lines.specs.Texts.{LinesAreRead, TextIsOfLines, FirstBadLine}

split-at : (line rest : List ℕ) → IsOneLine line →
    slice_split is_newline (line ++ (10 ∷ rest)) ≡ line ∷ slice_split is_newline rest
split-at [] rest plain = slice_split-cons_yes is_newline 10 rest refl
split-at (b ∷ bs) rest plain = slice_split-cons_no is_newline b (bs ++ (10 ∷ rest)) plain.0
    ∙ ap (onto_first b) (split-at bs rest plain.1)

-- a text has a first part
has-part : (parts : List (List ℕ)) → 1 ≤ length parts → (h : List ℕ) × (t : List (List ℕ)) × (parts ≡ h ∷ t)
has-part [] some = absurd (omega (arith, some))
has-part (h ∷ t) some = (h, t, refl)

pub first-part : (text : List ℕ) → (h : List ℕ) × (t : List (List ℕ)) × (slice_split is_newline text ≡ h ∷ t)
first-part text = has-part (slice_split is_newline text)
    (let n = length-slice_split is_newline text in omega (arith, n))

-- parts, of which the last is empty, joined
join-ended : (lines : List (List ℕ)) → join_with_byte 10 (lines ++ [] ∷ []) ≡ flat_map ended lines
join-ended [] = refl
join-ended (l ∷ []) = sym (append-nil (l ++ 10 ∷ []))
join-ended (l ∷ m ∷ ls) =
    ap (λ (t : List ℕ). l ++ (10 ∷ t)) (join-ended (m ∷ ls)) ∙ sym (append_assoc l (10 ∷ []) (flat_map ended (m ∷ ls)))

module _ {S : Type 0} (step : S → List ℕ → Option S) (ends : S → Bool) where
  lines-read : (n : ℕ) (lines : List (List ℕ)) (s t : S) →
      AllByRecursion IsOneLine lines → Leads step ends s lines t →
      ends t ≡ true → read_parts step ends n s (slice_split is_newline (flat_map ended lines)) ≡ Ok t
  lines-read n [] s t plain leads end =
      let here : ends s ≡ true = subst (λ (u : S). ends u ≡ true) (sym leads) end in
      rw here (ap (λ (u : S). let r : Result S ℕ = Ok u in r) leads)
  lines-read n (l ∷ ls) s t plain leads end =
      let rest : List ℕ = flat_map ended ls in
      let next = lines-read (n + 1) ls leads.0 t plain.1 leads.2 end in
      let whole : (l ++ 10 ∷ []) ++ rest ≡ l ++ (10 ∷ rest) = append_assoc l (10 ∷ []) rest in
      let parts = ap (slice_split is_newline) whole ∙ split-at l rest plain.0 in
      let f = first-part rest in
      let all : slice_split is_newline ((l ++ 10 ∷ []) ++ rest) ≡ l ∷ f.0 ∷ f.1 = parts ∙ ap (λ t. l ∷ t) f.2 in
      ap (read_parts step ends n s) all
      ∙ ap (λ (o : Option S). or_line n (option_map (λ (u : S). read_parts step ends (n + 1) u (f.0 ∷ f.1)) o)) leads.1
      ∙ ap (read_parts step ends (n + 1) leads.0) (sym f.2) ∙ next

  pub lines-are_read : LinesAreRead step ends
  lines-are_read lines s t plain leads end = lines-read 1 lines s t plain leads end

  -- parts that are read
  record ArePartsOf (s : S) (parts : List (List ℕ)) (t : S) : Type 0 where
    pub lines : List (List ℕ)
    pub parts_are : parts ≡ lines ++ [] ∷ []
    pub leads : Leads step ends s lines t
    pub ends_there : ends t ≡ true

  parts-read : (n : ℕ) (s : S) (parts : List (List ℕ)) (t : S) → read_parts step ends n s parts ≡ Ok t →
      ArePartsOf s parts t
  parts-read n s [] t e = absurd (cc)
  parts-read n s (l ∷ []) t e = by (ends s && (length l == 0)) refl e
    where
      by : (b : Bool) → (ends s && (length l == 0)) ≡ b → ◌≡◌ {A = Result S ℕ} (if b then Ok s else Err n) (Ok t) →
          ArePartsOf s (l ∷ []) t
      by false is h = absurd (cc)
      by true is h =
          let parts : (ends s ≡ true) × ((length l == 0) ≡ true) = and_parts (ends s) (length l == 0) is in
          let same : s ≡ t = cc in
          let empty = nil_from_length l (eqb-true (length l) 0 parts.1) in
          record {
            lines = [];
            parts_are = ap (λ (x : List ℕ). x ∷ []) empty;
            leads = same;
            ends_there = subst (λ (u : S). ends u ≡ true) same parts.0;
          }
  parts-read n s (l ∷ m ∷ ls) t e = by (step s l) refl e (λ u h. parts-read (n + 1) u (m ∷ ls) t h)
    where
      by : (o : Option S) → step s l ≡ o →
          or_line n (option_map (λ (u : S). read_parts step ends (n + 1) u (m ∷ ls)) o) ≡ Ok t →
          ((u : S) → read_parts step ends (n + 1) u (m ∷ ls) ≡ Ok t → ArePartsOf u (m ∷ ls) t) →
          ArePartsOf s (l ∷ m ∷ ls) t
      by None is h next = absurd (cc)
      by (Some u) is h next =
          let r = next u h in
          record {
            lines = l ∷ r.lines;
            parts_are = ap (λ (x : List (List ℕ)). l ∷ x) r.parts_are;
            leads = (u, is, r.leads);
            ends_there = r.ends_there;
          }

  pub text-of_lines : TextIsOfLines step ends
  text-of_lines s text t e =
      let r = parts-read 1 s (slice_split is_newline text) t e in
      record {
        lines = r.lines;
        text_is = sym (join_with_byte-slice_split 10 text) ∙ (ap (join_with_byte 10) r.parts_are ∙ join-ended r.lines);
        leads = r.leads;
        ends_there = r.ends_there;
      }

  stops-at : (n line : ℕ) (s : S) (h : List ℕ) (t : List (List ℕ)) → read_parts step ends n s (h ∷ t) ≡ Err line →
      StopsAt step ends s (h ∷ t) n line
  stops-at n line s l [] e = by (ends s && (length l == 0)) refl e
    where
      by : (b : Bool) → (ends s && (length l == 0)) ≡ b → ◌≡◌ {A = Result S ℕ} (if b then Ok s else Err n) (Err line) →
          StopsAt step ends s (l ∷ []) n line
      by true is h = absurd (cc)
      by false is h =
          let same : n ≡ line = cc in
          record {
            before = [];
            state = s;
            part = l;
            rest = [];
            parts_are = refl;
            leads = refl;
            bad = is;
            number = omega (arith, same);
          }
  stops-at n line s l (m ∷ ls) e = by (step s l) refl e (λ u h. stops-at (n + 1) line u m ls h)
    where
      by : (o : Option S) → step s l ≡ o →
          or_line n (option_map (λ (u : S). read_parts step ends (n + 1) u (m ∷ ls)) o) ≡ Err line →
          ((u : S) → read_parts step ends (n + 1) u (m ∷ ls) ≡ Err line → StopsAt step ends u (m ∷ ls) (n + 1) line) →
          StopsAt step ends s (l ∷ m ∷ ls) n line
      by None is h next =
          let same : n ≡ line = cc in
          record {
            before = [];
            state = s;
            part = l;
            rest = m ∷ ls;
            parts_are = refl;
            leads = refl;
            bad = is;
            number = omega (arith, same);
          }
      by (Some u) is h next =
          let r = next u h in
          let count = r.number in
          record {
            before = l ∷ r.before;
            state = r.state;
            part = r.part;
            rest = r.rest;
            parts_are = ap (λ (x : List (List ℕ)). l ∷ x) r.parts_are;
            leads = (u, is, r.leads);
            bad = r.bad;
            number = omega (arith, count);
          }

  pub first-bad_line : FirstBadLine step ends
  first-bad_line s text line e =
      let f = first-part text in
      subst (λ (p : List (List ℕ)). StopsAt step ends s p 1 line) (sym f.2)
      (stops-at 1 line s f.0 f.1 (ap (read_parts step ends 1 s) (sym f.2) ∙ e))
