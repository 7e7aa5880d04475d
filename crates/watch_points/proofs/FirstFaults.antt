-- The first line of a text that breaks a rule, and the first watch that is refused.
use Rattle.std.proofs.Common.{◌≡◌, ℕ, zero, suc, ◌+◌, ◌-◌, ◌<◌, ◌≤◌, ◌⊎◌, inl, inr, List, [], ◌∷◌, ◌++◌, length, take}
use Rattle.std.proofs.Common.{refl, sym, ap, ◌∙◌, subst, arith, Bool, true, false, nat_lt, ◌==◌, append-nil, append_assoc}
use Rattle.std.proofs.Common.{length-append, Option, Some, None, slice_get, Result, Ok, Err}
use Rattle.std.specs.Prelude.{◌≢◌, ◌&&◌, codes, if◌then◌else◌, ok_or, reverse, ⊤}
use Rattle.std.specs.List.{enumerate_from, flat_map}
use Rattle.std.specs.Str.{bytes_eq}
use Rattle.std.proofs.lemmas.Bool.{cases_lt, le-leb, ltb-true}
use Rattle.std.proofs.lemmas.Grind.{flat_map-append}
use Rattle.std.proofs.lemmas.List.{reverse-append}
use Rattle.std.proofs.lemmas.List.Concat.{flat_map-cons}
use Rattle.std.proofs.lemmas.Option.{same_Some, slice_get_within}
use Rattle.sim_base.specs.Chain.{◌>>=◌}
use Rattle.sim_base.specs.Clones.{Clone}
use Rattle.sim_base.specs.Params.{param_of_word, param_values}
use Rattle.sim_base.specs.declared.limits.TheConstants.{MAX_FILE_BYTES}
use Rattle.sim_base.specs.declared.message.Change.{Change}
use Rattle.sim_base.specs.declared.message.Param.{Param}
use Rattle.sim_base.proofs.ListLaws.{take-append}
use Rattle.net_model.specs.Net.{Net}
use Rattle.decision_script.specs.Lines.{is_ascii, lines, number, words}
use Rattle.decision_script.specs.Sentences.{begins_comment, change_of, one_value, param_of, two_values, where_form}
use Rattle.decision_script.specs.Sentences.{with_values, word_number}
use Rattle.decision_script.specs.declared.fault.LineFault.{LineFault}
use Rattle.decision_script.specs.declared.fault.LineFault.TheVariants as broken
use Rattle.decision_book.specs.declared.call.Reply.{Reply}
use Rattle.decision_book.specs.declared.call.Reply.TheVariants.{Accepted}
use Rattle.watch_points.specs.Checking.{fit, fit_after, if_accepted, watch_reply}
use Rattle.watch_points.specs.Faults.{fault_line}
use Rattle.watch_points.specs.Firsts.{BreaksRule, FirstFaultIsFound, FirstRefusedIsFound, FitsOrFails, HasFault}
use Rattle.watch_points.specs.Firsts.{IsRefused, StatesOrFails, watch_in, watches_in}
use Rattle.watch_points.specs.Reading.{after_line, after_lines, after_saying, at_line, fault_at, watches}
use Rattle.watch_points.specs.Sentences.{are_keywords, are_names, least_and_change, line_saying, named_watch, saying}
use Rattle.watch_points.specs.Sentences.{sentence, watch_of}
use Rattle.watch_points.specs.declared.fault.WatchFault.{WatchFault}
use Rattle.watch_points.specs.declared.fault.WatchFault.TheVariants.{TooLong, TooManyLines}
use Rattle.watch_points.specs.declared.fitting.Unfit.{Unfit}
use Rattle.watch_points.specs.declared.watch.TheConstants.{MAX_WATCHES}
use Rattle.watch_points.specs.declared.watch.Watch.{Watch}
use Rattle.watch_points.proofs.Elements.{slice_get-after}

-- ---- a line's fault is never out of memory

-- a result, or a rule that the words break
abbrev IsTold : {A : Type 0} → Result A LineFault → Type 0
IsTold (Ok x) = ⊤
IsTold (Err e) = e ≢ broken.NoMemory

where_told : {A : Type 0} (b : Bool) (r : Result A LineFault) → IsTold r → IsTold (where_form b r)
where_told true r h = h
where_told false r h = λ e. absurd (cc)

then_told : {A B : Type 0} (r : Result A LineFault) (f : A → Result B LineFault) → IsTold r
    → ((x : A) → IsTold (f x)) → IsTold (r >>= f)
then_told (Ok x) f h g = g x
then_told (Err e) f h g = h

number_told : (word : List ℕ) → IsTold (word_number word)
number_told word = by (number word)
  where
    by : (o : Option ℕ) → IsTold (ok_or o broken.BadNumber)
    by None = λ e. absurd (cc)
    by (Some n) = tt

param_told : (word : List ℕ) (count : ℕ) → IsTold (param_of word count)
param_told word count = by (param_of_word word)
  where
    by : (o : Option Param) → IsTold (with_values o count)
    by None = λ e. absurd (cc)
    by (Some p) = where_told (param_values p == count) (Ok p) tt

one_told : (param : Param) (a : List ℕ) → IsTold (one_value param a)
unfolding one_value
one_told param a = then_told (word_number a) _ (number_told a) (λ x. tt)

two_told : (param : Param) (a b : List ℕ) → IsTold (two_values param a b)
unfolding two_values
two_told param a b = then_told (word_number a) _ (number_told a)
    (λ x. then_told (word_number b) _ (number_told b) (λ y. tt))

change_told : (param : Param) (values : List (List ℕ)) → IsTold (change_of param values)
change_told param [] = λ e. absurd (cc)
change_told param (a ∷ []) = one_told param a
change_told param (a ∷ b ∷ []) = two_told param a b
change_told param (a ∷ b ∷ c ∷ cs) = λ e. absurd (cc)

least_told : (least : List ℕ) (change : List (List ℕ)) → IsTold (least_and_change least change)
unfolding least_and_change
least_told least [] = λ e. absurd (cc)
least_told least (param ∷ values) = then_told (param_of param (length values)) _ (param_told param (length values))
    (λ p. then_told (word_number least) _ (number_told least)
    (λ k. then_told (change_of p values) _ (change_told p values) (λ c. tt)))

named_told : (line : ℕ) (who station least new target : List ℕ) (change : List (List ℕ))
    → IsTold (named_watch line who station least new target change)
unfolding named_watch
named_told line who station least new target change = where_told (are_names who station new target) _
    (then_told (least_and_change least change) _ (least_told least change) (λ v. tt))

watch_told : (line : ℕ) (ws : List (List ℕ)) → IsTold (watch_of line ws)
watch_told line (who ∷ station ∷ wait ∷ least ∷ fork ∷ new ∷ set ∷ target ∷ change) =
    where_told (are_keywords wait fork set) _ (named_told line who station least new target change)
watch_told line _ = λ e. absurd (cc)

sentence_told : (line : ℕ) (verb : List ℕ) (rest : List (List ℕ)) → IsTold (sentence line verb rest)
sentence_told line verb rest = by (bytes_eq verb (codes "watch"))
  where
    by : (b : Bool) → IsTold (if b then (watch_of line rest >>= λ w. Ok (Some w)) else Err broken.BadLine)
    by true = then_told (watch_of line rest) (λ w. Ok (Some w)) (watch_told line rest) (λ w. tt)
    by false = λ e. absurd (cc)

saying_told : (line : ℕ) (ws : List (List ℕ)) → IsTold (saying line ws)
saying_told line [] = tt
saying_told line (w ∷ ws) = by (begins_comment w)
  where
    by : (b : Bool) → IsTold (if b then Ok None else sentence line w ws)
    by true = tt
    by false = sentence_told line w ws

line_told : (line : ℕ) (text : List ℕ) → IsTold (line_saying line text)
line_told line text = by (is_ascii text)
  where
    by : (b : Bool) → IsTold (if b then saying line (words text) else Err broken.NotAscii)
    by true = saying_told line (words text)
    by false = λ e. absurd (cc)

-- so the fault names the line
fault_at-line : (line : ℕ) (b : LineFault) → b ≢ broken.NoMemory → fault_line (fault_at line b) ≡ line
fault_at-line line broken.NotAscii told = refl
fault_at-line line broken.BadLine told = refl
fault_at-line line broken.BadNumber told = refl
fault_at-line line broken.NoMemory told = absurd (told refl)

-- ---- watches_in

enumerate-push : {X : Type 0} (n : ℕ) (xs : List X) (x : X)
    → enumerate_from n (xs ++ x ∷ []) ≡ enumerate_from n xs ++ (n + length xs, x) ∷ []
enumerate-push n [] x = let here : n + 0 ≡ n = omega arith in ap (λ (k : ℕ). (k, x) ∷ []) (sym here)
enumerate-push {X} n (y ∷ xs) x =
    let next : n + 1 + length xs ≡ n + suc (length xs) = omega arith in
    ap (λ (l : List (ℕ × X)). (n, y) ∷ l) (enumerate-push (n + 1) xs x
    ∙ ap (λ (k : ℕ). enumerate_from (n + 1) xs ++ (k, x) ∷ []) next)

-- the watch that a line says, by its number and its text
abbrev said_in : ℕ × List ℕ → List Watch
said_in p = watch_in (line_saying p.0 p.1)

-- one line more
watches_in-push : (before : List (List ℕ)) (n : ℕ) (l : List ℕ) → n ≡ suc (length before)
    → watches_in (before ++ l ∷ []) ≡ watches_in before ++ watch_in (line_saying n l)
watches_in-push before n l is =
    let place : 1 + length before ≡ n = omega (arith, is) in
    ap (flat_map said_in) (enumerate-push 1 before l
    ∙ ap (λ (k : ℕ). enumerate_from 1 before ++ (k, l) ∷ []) place)
    ∙ flat_map-append said_in (enumerate_from 1 before) ((n, l) ∷ [])
    ∙ ap (λ (ws : List Watch). watches_in before ++ ws) (flat_map-cons said_in (n, l) []
    ∙ append-nil (watch_in (line_saying n l)))

-- ---- after_lines

module _ (ls : List (List ℕ)) where
  -- the lines from one on, after others that break no rule
  record AreAfter (before rest : List (List ℕ)) (n : ℕ) (ws : List Watch) : Type 0 where
    pub parts : ls ≡ before ++ rest
    pub number_is : n ≡ suc (length before)
    pub said : ws ≡ watches_in before
    pub none : (line : ℕ) (fault : WatchFault) → line ≤ length before → ¬ BreaksRule ls line fault

  module _ (before : List (List ℕ)) (l : List ℕ) (rest : List (List ℕ)) (n : ℕ) (ws : List Watch)
      (after : AreAfter before (l ∷ rest) n ws) where
    place : n - 1 ≡ length before
    place = let is = after.number_is in omega (arith, is)

    there : slice_get ls (n - 1) ≡ Some l
    there = ap (slice_get ls) place ∙ ap (λ (k : List (List ℕ)). slice_get k (length before)) after.parts
        ∙ slice_get-after before rest l

    first : take (n - 1) ls ≡ before
    first = ap (λ (k : ℕ). take k ls) place ∙ ap (take (length before)) after.parts
        ∙ take-append before (l ∷ rest) (length before) refl

    breaks_here : (fault : WatchFault) → HasFault before n l fault → BreaksRule ls n fault
    breaks_here fault has = record {
      text = l;
      low = let is = after.number_is in omega (arith, is);
      is_there = there;
      has_fault = subst (λ (b : List (List ℕ)). HasFault b n l fault) (sym first) has;
    }

    -- no line before it breaks a rule
    none_before : (line : ℕ) (fault : WatchFault) → line < n → ¬ BreaksRule ls line fault
    none_before line fault less = let is = after.number_is in after.none line fault (omega (arith, is, less))

    -- if the line breaks no rule either, the next lines are after it
    goes_on : (next : List Watch) → next ≡ ws ++ watch_in (line_saying n l)
        → ((fault : WatchFault) → ¬ HasFault before n l fault) → AreAfter (before ++ l ∷ []) rest (n + 1) next
    goes_on next is no_fault =
        let long = length-append before (l ∷ []) in
        let number = after.number_is in
        record {
          parts = after.parts ∙ sym (append_assoc before (l ∷ []) rest);
          number_is = omega (arith, long, number);
          said = is ∙ ap (λ (k : List Watch). k ++ watch_in (line_saying n l)) after.said
              ∙ sym (watches_in-push before n l number);
          none = λ line fault within broken_rule. elim (cases_lt line n) [
            | inl less ↦ none_before line fault less broken_rule
            | inr more ↦
                let here : line ≡ n = omega (arith, long, number, within, more) in
                let at_n = subst (λ (k : ℕ). BreaksRule ls k fault) here broken_rule in
                let same : at_n.text ≡ l = same_Some at_n.text l (sym at_n.is_there ∙ there) in
                no_fault fault (subst (λ (t : List ℕ). HasFault before n t fault) same
                (subst (λ (b : List (List ℕ)). HasFault b n at_n.text fault) first at_n.has_fault))
          ];
        }

  states_from : (before rest : List (List ℕ)) (n : ℕ) (ws : List Watch) → AreAfter before rest n ws
      → StatesOrFails ls (after_lines n ws rest)
  unfolding after_lines after_line
  states_from before [] n ws after =
      let whole : ls ≡ before = after.parts ∙ append-nil before in (
        after.said ∙ ap watches_in (sym whole),
        λ line fault is.
            let low = is.low in
            let within = slice_get_within ls (line - 1) is.text is.is_there in
            let long = ap (λ (k : List (List ℕ)). length k) whole in
            after.none line fault (omega (arith, low, within, long)) is,
      )
  states_from before (l ∷ rest) n ws after =
      by (line_saying n l) refl (λ next ok. states_from (before ++ l ∷ []) rest (n + 1) next ok)
    where
      -- the lines after this one
      GoesOn : Type 0
      GoesOn = (next : List Watch) → AreAfter (before ++ l ∷ []) rest (n + 1) next
          → StatesOrFails ls (after_lines (n + 1) next rest)

      room : (w : Watch) → line_saying n l ≡ Ok (Some w) → (b : Bool) → nat_lt (length ws) MAX_WATCHES ≡ b → GoesOn
          → StatesOrFails ls ((if b then Ok (ws ++ w ∷ []) else Err (TooManyLines n)) >>= λ next.
          after_lines (n + 1) next rest)
      room w said true few go = go (ws ++ w ∷ [])
          (goes_on before l rest n ws after (ws ++ w ∷ []) (ap (λ s. ws ++ watch_in s) (sym said))
          (λ fault has. elim has [
            | inl bad ↦ let e = bad.1 in absurd (cc)
            | inr many ↦
                let enough = many.2 in
                let less = ltb-true (length ws) MAX_WATCHES few in
                let same = ap (λ (k : List Watch). length k) after.said in
                omega (arith, enough, less, same)
          ]))
      room w said false many go =
          let enough : MAX_WATCHES ≤ length (watches_in before) = elim (cases_lt (length ws) MAX_WATCHES) [
            | inl less ↦
                let few : nat_lt (length ws) MAX_WATCHES ≡ true =
                le-leb (suc (length ws)) MAX_WATCHES (omega (arith, less)) in
                absurd (cc)
            | inr more ↦ let same = ap (λ (k : List Watch). length k) after.said in omega (arith, more, same)
          ] in
          record {
            breaks = breaks_here before l rest n ws after (TooManyLines n) (inr (w, said, enough, refl));
            none_before = λ line other less. none_before before l rest n ws after line other less;
          }

      by : (s : Result (Option Watch) LineFault) → line_saying n l ≡ s → GoesOn
          → StatesOrFails ls ((at_line n s >>= after_saying n ws) >>= λ next. after_lines (n + 1) next rest)
      by (Ok None) said go = go ws
          (goes_on before l rest n ws after ws (sym (ap (λ s. ws ++ watch_in s) said ∙ append-nil ws))
          (λ fault has. elim has [
            | inl bad ↦ let e = bad.1 in absurd (cc)
            | inr more ↦ let e = more.1 in absurd (cc)
          ]))
      by (Ok (Some w)) said go = room w said (nat_lt (length ws) MAX_WATCHES) refl go
      by (Err b) said go =
          let named : fault_line (fault_at n b) ≡ n = fault_at-line n b (subst IsTold said (line_told n l)) in
          record {
            breaks = subst (λ (k : ℕ). BreaksRule ls k (fault_at n b)) (sym named)
                (breaks_here before l rest n ws after (fault_at n b) (inl (b, said, refl)));
            none_before = λ line other less.
                none_before before l rest n ws after line other (omega (arith, named, less));
          }

pub first_fault_is_found : FirstFaultIsFound
first_fault_is_found text short = by (nat_lt MAX_FILE_BYTES (length text)) refl
  where
    by : (b : Bool) → nat_lt MAX_FILE_BYTES (length text) ≡ b
        → StatesOrFails (lines text) (if b then Err TooLong else after_lines 1 [] (lines text))
    by true long = let over = ltb-true MAX_FILE_BYTES (length text) long in absurd (omega (arith, short, over))
    by false fits = states_from (lines text) [] (lines text) 1 [] (record {
      parts = refl;
      number_is = refl;
      said = refl;
      none = λ line fault within is. let low = is.low in absurd (omega (arith, within, low));
    })

-- ---- fit_after

module _ (net : Net) (cs : List Clone) (ws : List Watch) where
  -- the reply to the watch after others
  module _ (before : List Watch) (w : Watch) (rest : List Watch) (parts : ws ≡ before ++ w ∷ rest)
      (earlier : List Watch) (same : earlier ≡ reverse before) where
    watch_there : slice_get ws (length before) ≡ Some w
    watch_there = ap (λ (k : List Watch). slice_get k (length before)) parts ∙ slice_get-after before rest w

    reply_there : watch_reply net cs earlier w ≡ watch_reply net cs (reverse (take (length before) ws)) w
    reply_there =
        let those : take (length before) ws ≡ before =
        ap (take (length before)) parts ∙ take-append before (w ∷ rest) (length before) refl in
        ap (λ (k : List Watch). watch_reply net cs k w) (same ∙ ap reverse (sym those))

    -- it is not refused if it is accepted
    not_refused : watch_reply net cs earlier w ≡ Accepted → (unfit : Unfit)
        → ¬ IsRefused net cs ws (length before) unfit
    not_refused is unfit refused =
        let one : refused.watch ≡ w = same_Some refused.watch w (sym refused.is_there ∙ watch_there) in
        refused.refused (refused.reply_is
        ∙ ap (watch_reply net cs (reverse (take (length before) ws))) one ∙ sym reply_there ∙ is)

    -- it is refused if it is not
    is_refused : (r : Reply) → watch_reply net cs earlier w ≡ r → r ≢ Accepted
        → IsRefused net cs ws (length before) (record { line = w.line; reply = r })
    is_refused r is refusal = record {
      watch = w;
      is_there = watch_there;
      line_is = refl;
      reply_is = sym is ∙ reply_there;
      refused = refusal;
    }

  fits_from : (before rest : List Watch) → ws ≡ before ++ rest → (earlier : List Watch) → earlier ≡ reverse before
      → ((j : ℕ) (unfit : Unfit) → j < length before → ¬ IsRefused net cs ws j unfit)
      → FitsOrFails net cs ws (fit_after net cs earlier rest)
  unfolding fit_after
  fits_from before [] parts earlier same none = λ j unfit is.
      let within = slice_get_within ws j is.watch is.is_there in
      let long = ap (λ (k : List Watch). length k) (parts ∙ append-nil before) in
      none j unfit (omega (arith, within, long)) is
  fits_from before (w ∷ rest) parts earlier same none =
      by (watch_reply net cs earlier w) refl
      (fits_from (before ++ w ∷ []) rest (parts ∙ sym (append_assoc before (w ∷ []) rest)) (w ∷ earlier)
      (ap (λ (k : List Watch). w ∷ k) same ∙ sym (reverse-append before (w ∷ []))))
    where
      by : (r : Reply) → watch_reply net cs earlier w ≡ r
          → (((j : ℕ) (unfit : Unfit) → j < length (before ++ w ∷ []) → ¬ IsRefused net cs ws j unfit)
          → FitsOrFails net cs ws (fit_after net cs (w ∷ earlier) rest))
          → FitsOrFails net cs ws (if_accepted r w.line (fit_after net cs (w ∷ earlier) rest))
      by Accepted is go = go (λ j unfit less refused. elim (cases_lt j (length before)) [
        | inl first ↦ none j unfit first refused
        | inr last ↦
            let long = length-append before (w ∷ []) in
            let here : j ≡ length before = omega (arith, less, last, long) in
            not_refused before w rest parts earlier same is unfit
            (subst (λ (k : ℕ). IsRefused net cs ws k unfit) here refused)
      ])
      by r is go = record {
        place = length before;
        is_refused = is_refused before w rest parts earlier same r is (λ e. absurd (cc));
        none_before = none;
      }

pub first_refused_is_found : FirstRefusedIsFound
first_refused_is_found net cs ws =
    fits_from net cs ws [] ws refl [] refl (λ j unfit less. absurd (omega (arith, less)))
