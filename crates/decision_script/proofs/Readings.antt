-- The invariants of a reading.
use Rattle.std.proofs.Common.{◌≡◌, ℕ, ◌+◌, ◌<◌, ◌&&◌, ◌==◌, Bool, true, false, nat_lt}
use Rattle.std.proofs.Common.{nat_le, cond, List, [], ◌∷◌, ◌++◌, length, refl, arith, subst, Option, Some}
use Rattle.std.proofs.Common.{None, Ok, Err, Result, codes, slice_get, IfOk, eqb-true}
use Rattle.std.specs.Option.{ok_or}
use Rattle.std.specs.Str.{bytes_eq}
use Rattle.std.specs.Str.Parse.{digits_value}
use Rattle.std.proofs.lemmas.List.{length_push}
use Rattle.std.proofs.lemmas.List.Elements.{All-nil, All-cons, All-push, All-weaker}
use Rattle.std.proofs.lemmas.List.Quantifiers.{all_pairs_push, position-Some}
use Rattle.std.proofs.lemmas.Bool.{and_parts}
use Rattle.std.proofs.lemmas.Bool.Decides.{nat_tests}
use Rattle.sim_base.specs.Names.{is_name}
use Rattle.sim_base.specs.Params.{param_values, param_of_word}
use Rattle.sim_base.proofs.Chain.{bind-IfOk}
use Rattle.sim_base.proofs.ListLaws.{none_passes}
use Rattle.sim_base.specs.declared.decision.Decision.TheVariants.{Fork}
use Rattle.sim_base.specs.declared.message.Change.{Change}
use Rattle.sim_base.specs.declared.message.Param.{Param}
use Rattle.sim_base.specs.declared.message.Param.TheVariants.{Every, Service, Hold, Servers, Room, Weight}
use Rattle.decision_script.specs.declared.fault.LineFault.{LineFault}
use Rattle.decision_script.specs.declared.fault.LineFault.TheVariants.{BadLine, BadNumber}
use Rattle.decision_script.specs.declared.fault.ScriptFault.TheVariants.{TooManyAnalysts, TooManyLines}
use Rattle.decision_script.specs.declared.item.Act.{Act}
use Rattle.decision_script.specs.declared.item.Act.TheVariants.{Decide, Look}
use Rattle.decision_script.specs.declared.item.Item.{Item}
use Rattle.decision_script.specs.declared.line.ParsedLine.{ParsedLine}
use Rattle.decision_script.specs.declared.line.ParsedLine.TheVariants.{Nothing, Section, Action}
use Rattle.decision_script.specs.Lines.{has_number_form, is_ascii, words, lines}
use Rattle.decision_script.specs.Sentences.{where_form, with_values, word_number, param_of, one_value, two_values}
use Rattle.decision_script.specs.Sentences.{change_of, section, look, fork, end, set}
use Rattle.decision_script.specs.Sentences.{after_analyst, after_look, after_fork, after_end, after_set, sentence}
use Rattle.decision_script.specs.Sentences.{begins_comment, saying, line_saying}
use Rattle.decision_script.specs.Stating.{Fits32, IsAnalyst, IsName, IsChange, IsAct, IsItem, IsScript}
use Rattle.sim_base.specs.declared.number.TheConstants.{MAX_DIGITS}
use Rattle.decision_script.specs.declared.number.TheConstants.{MAX_NUMBER}
use Rattle.decision_script.specs.declared.script.TheConstants.{MAX_ANALYSTS, MAX_ITEMS}
use Rattle.decision_script.specs.Reading.{ReaderView, at_line, analyst_place, in_section, after_saying}
use Rattle.decision_script.specs.Reading.{after_line, after_lines, new_reader, script_of}

-- ---- where_form and cond

-- names that a line says are names, and its numbers fit 32 bits
abbrev IsParsedLine : ParsedLine → Type 0
IsParsedLine Nothing = Unit {0}
IsParsedLine (Section name) = IsName name
IsParsedLine (Action act) = IsAct act

-- if a line has the form, a property of its result holds of its meaning
where_form-IfOk : {A : Type 0} (P : A → Type 0) (b : Bool) (r : Result A LineFault) → (b ≡ true → IfOk r P)
    → IfOk (where_form b r) P
where_form-IfOk P true r h = h refl
where_form-IfOk P false r h = tt

-- a property of two results by a test holds of the one that the test picks
cond-IfOk : {A F : Type 0} (P : A → Type 0) (b : Bool) (r s : Result A F) → (b ≡ true → IfOk r P) → IfOk s P
    → IfOk (cond b r s) P
cond-IfOk P true r s h k = h refl
cond-IfOk P false r s h k = k

-- ---- numbers and changes

-- a number that a word writes fits 32 bits
word_number-fits : (word : List ℕ) → IfOk (word_number word) Fits32
word_number-fits word =
    by ((has_number_form word && nat_le (length word) MAX_DIGITS) && nat_le (digits_value 10 word) MAX_NUMBER) refl
  where
    by : (b : Bool)
        → ((has_number_form word && nat_le (length word) MAX_DIGITS) && nat_le (digits_value 10 word) MAX_NUMBER) ≡ b
        → IfOk (ok_or (cond b (Some (digits_value 10 word)) None) BadNumber) Fits32
    by true e =
        let small = (and_parts (has_number_form word && nat_le (length word) MAX_DIGITS)
        (nat_le (digits_value 10 word) MAX_NUMBER) e).1 in
        grind (arith, nat_tests)
    by false e = tt

-- a parameter that takes this number of values
abbrev Takes : ℕ → Param → Type 0
Takes n param = param_values param ≡ n

-- a parameter that is asked for with this number of values takes as many
with_values-holds : (p : Option Param) (count : ℕ) → IfOk (with_values p count) (Takes count)
with_values-holds None count = tt
with_values-holds (Some p) count = where_form-IfOk (Takes count) (param_values p == count) (Ok p)
    (λ h. eqb-true (param_values p) count h)

-- a change of a parameter to values that it may have
abbrev Changes : Change → Type 0
Changes c = IsChange c.param c.a c.b

-- one value that fits makes a change
one_changes : (param : Param) (x : ℕ) → Fits32 x → IsChange param x 0
one_changes Every x h = (h, omega arith)
one_changes Service x h = (h, omega arith)
one_changes Hold x h = (h, omega arith)
one_changes Servers x h = (h, refl)
one_changes Room x h = (h, refl)
one_changes Weight x h = (h, omega arith)

-- and so do two, if the parameter takes two
two_change : (param : Param) (x y : ℕ) → Takes 2 param → Fits32 x → Fits32 y → IsChange param x y
two_change Every x y t h k = (h, k)
two_change Service x y t h k = (h, k)
two_change Hold x y t h k = (h, k)
two_change Servers x y t h k = absurd (omega arith)
two_change Room x y t h k = absurd (omega arith)
two_change Weight x y t h k = (h, k)

-- so do as many values as the parameter takes
change_of-holds : (param : Param) (values : List (List ℕ)) → Takes (length values) param
    → IfOk (change_of param values) Changes
unfolding one_value two_values
change_of-holds param [] t = tt
change_of-holds param (a ∷ []) t =
    bind-IfOk Fits32 Changes (word_number a) _ (word_number-fits a) (λ x h. one_changes param x h)
change_of-holds param (a ∷ b ∷ []) t =
    bind-IfOk Fits32 Changes (word_number a) _ (word_number-fits a)
    (λ x h. bind-IfOk Fits32 Changes (word_number b) _ (word_number-fits b) (λ y k. two_change param x y t h k))
change_of-holds param (a ∷ b ∷ c ∷ more) t = tt

-- ---- the sentences

-- a section has a name
section-holds : (name : List ℕ) → IfOk (section name) IsParsedLine
unfolding section
section-holds name = where_form-IfOk IsParsedLine (is_name name) (Ok (Section name)) (λ h. h)

-- a look has two
look-holds : (who station : List ℕ) → IfOk (look who station) IsParsedLine
unfolding look
look-holds who station = where_form-IfOk IsParsedLine (is_name who && is_name station) (Ok (Action (Look who station)))
    (λ h. and_parts (is_name who) (is_name station) h)

-- a fork too
fork-holds : (new keyword old : List ℕ) → IfOk (fork new keyword old) IsParsedLine
unfolding fork
fork-holds new keyword old = where_form-IfOk IsParsedLine ((bytes_eq keyword (codes "from") && is_name new) && is_name
    old)
    (Ok (Action (Decide (Fork new old)))) (λ h.
    let (keyword_and_new, o) = and_parts (bytes_eq keyword (codes "from") && is_name new) (is_name old) h in
    ((and_parts (bytes_eq keyword (codes "from")) (is_name new) keyword_and_new).1, o))

-- an end has a name, and a time that fits
end-holds : (who keyword time : List ℕ) → IfOk (end who keyword time) IsParsedLine
unfolding end
end-holds who keyword time = where_form-IfOk IsParsedLine (bytes_eq keyword (codes "at") && is_name who) _ (λ h.
    bind-IfOk Fits32 IsParsedLine (word_number time) _ (word_number-fits time)
    (λ at fits. ((and_parts (bytes_eq keyword (codes "at")) (is_name who) h).1, fits)))

-- a set has two names, a time that fits, and a change
set-holds : (who keyword time station word : List ℕ) (values : List (List ℕ))
    → IfOk (set who keyword time station word values) IsParsedLine
unfolding set
set-holds who keyword time station word values =
    where_form-IfOk IsParsedLine ((bytes_eq keyword (codes "at") && is_name who) && is_name station) _ (λ h.
    let (keyword_and_who, s) = and_parts (bytes_eq keyword (codes "at") && is_name who) (is_name station) h in
    let w = (and_parts (bytes_eq keyword (codes "at")) (is_name who) keyword_and_who).1 in
    bind-IfOk (Takes (length values)) IsParsedLine (param_of word (length values)) _
    (with_values-holds (param_of_word word) (length values)) (λ param takes.
    bind-IfOk Fits32 IsParsedLine (word_number time) _ (word_number-fits time) (λ at fits.
    bind-IfOk Changes IsParsedLine (change_of param values) _ (change_of-holds param values takes)
    (λ change is. (w, fits, s, is)))))

-- so it is for all words after the first
after_analyst-holds : (ws : List (List ℕ)) → IfOk (after_analyst ws) IsParsedLine
after_analyst-holds [] = tt
after_analyst-holds (a ∷ []) = section-holds a
after_analyst-holds (a ∷ b ∷ ws) = tt

-- of a look
after_look-holds : (ws : List (List ℕ)) → IfOk (after_look ws) IsParsedLine
after_look-holds [] = tt
after_look-holds (a ∷ []) = tt
after_look-holds (a ∷ b ∷ []) = look-holds a b
after_look-holds (a ∷ b ∷ c ∷ ws) = tt

-- of a fork
after_fork-holds : (ws : List (List ℕ)) → IfOk (after_fork ws) IsParsedLine
after_fork-holds [] = tt
after_fork-holds (a ∷ []) = tt
after_fork-holds (a ∷ b ∷ []) = tt
after_fork-holds (a ∷ b ∷ c ∷ []) = fork-holds a b c
after_fork-holds (a ∷ b ∷ c ∷ d ∷ ws) = tt

-- of an end
after_end-holds : (ws : List (List ℕ)) → IfOk (after_end ws) IsParsedLine
after_end-holds [] = tt
after_end-holds (a ∷ []) = tt
after_end-holds (a ∷ b ∷ []) = tt
after_end-holds (a ∷ b ∷ c ∷ []) = end-holds a b c
after_end-holds (a ∷ b ∷ c ∷ d ∷ ws) = tt

-- and of a set
after_set-holds : (ws : List (List ℕ)) → IfOk (after_set ws) IsParsedLine
after_set-holds [] = tt
after_set-holds (a ∷ []) = tt
after_set-holds (a ∷ b ∷ []) = tt
after_set-holds (a ∷ b ∷ c ∷ []) = tt
after_set-holds (a ∷ b ∷ c ∷ d ∷ []) = tt
after_set-holds (a ∷ b ∷ c ∷ d ∷ e ∷ ws) = set-holds a b c d e ws

-- so it is for all words after every first one
sentence-holds : (verb : List ℕ) (rest : List (List ℕ)) → IfOk (sentence verb rest) IsParsedLine
sentence-holds verb rest =
    cond-IfOk IsParsedLine (bytes_eq verb (codes "analyst")) (after_analyst rest) _ (λ h. after_analyst-holds rest)
    (cond-IfOk IsParsedLine (bytes_eq verb (codes "fork")) (after_fork rest) _ (λ h. after_fork-holds rest)
    (cond-IfOk IsParsedLine (bytes_eq verb (codes "set")) (after_set rest) _ (λ h. after_set-holds rest)
    (cond-IfOk IsParsedLine (bytes_eq verb (codes "end")) (after_end rest) _ (λ h. after_end-holds rest)
    (cond-IfOk IsParsedLine (bytes_eq verb (codes "look")) (after_look rest) (Err BadLine) (λ h. after_look-holds rest)
    tt))))

-- with all words of a line
saying-holds : (ws : List (List ℕ)) → IfOk (saying ws) IsParsedLine
saying-holds [] = tt
saying-holds (w ∷ ws) =
    cond-IfOk IsParsedLine (begins_comment w) (Ok Nothing) (sentence w ws) (λ h. tt) (sentence-holds w ws)

-- with a line
line_saying-holds : (line : List ℕ) → IfOk (line_saying line) IsParsedLine
line_saying-holds line =
    cond-IfOk IsParsedLine (is_ascii line) (saying (words line)) _ (λ h. saying-holds (words line)) tt

-- and with a line of a number
at_line-holds : (n : ℕ) (r : Result ParsedLine LineFault) → IfOk r IsParsedLine → IfOk (at_line n r) IsParsedLine
at_line-holds n (Ok s) h = h
at_line-holds n (Err e) h = tt

-- ---- after_saying

-- the part read so far is a script with its current analyst
record IsReading (r : ReaderView) : Type 0 where
  pub script : IsScript (script_of r)
  pub current : IsAnalyst (length r.analysts) r.current

-- the first analyst stays the first
first_stays : (xs : List (List ℕ)) (y x : List ℕ) → slice_get xs 0 ≡ Some x → slice_get (xs ++ y ∷ []) 0 ≡ Some x
first_stays [] y x h = absurd (cc)
first_stays (z ∷ zs) y x h = h

-- an item of one of the analysts is so among one more
more_analysts : (n : ℕ) (i : Item) → IsItem n i → IsItem (n + 1) i
more_analysts n i h = record {
  analyst = record { low = h.analyst.low; high = omega (arith, h.analyst.high) };
  act = h.act;
}

-- a new analyst keeps it so
new_analyst : (r : ReaderView) (name : List ℕ) → IsReading r → IsName name → analyst_place name r.analysts ≡ None
    → length r.analysts < MAX_ANALYSTS
    → IsReading (record { analysts = r.analysts ++ name ∷ []; current = length r.analysts + 1; items = r.items })
new_analyst r name h n none few =
    let long = length_push r.analysts name in
    record {
      script = record {
        first = first_stays r.analysts name (codes "main") h.script.first;
        named = All-push IsName r.analysts name h.script.named n;
        distinct = all_pairs_push (λ a b. bytes_eq a b ≡ false) r.analysts name h.script.distinct
            (none_passes (λ x. bytes_eq x name) r.analysts none);
        few_analysts = omega (arith, long);
        few_items = h.script.few_items;
        valid = rw long (All-weaker (IsItem (length r.analysts)) (IsItem (length r.analysts + 1))
            (more_analysts (length r.analysts)) r.items h.script.valid);
      };
      current = record { low = omega arith; high = omega (arith, long) };
    }

-- so does a known one in force
known_analyst : (r : ReaderView) (i : ℕ) → IsReading r → i < length r.analysts
    → IsReading (record r { current = i + 1 })
known_analyst r i h there = record {
  script = h.script;
  current = record { low = omega arith; high = omega arith };
}

-- so does a section
in_section-keeps : (line : ℕ) (r : ReaderView) (name : List ℕ) (o : Option ℕ) → IsReading r → IsName name
    → analyst_place name r.analysts ≡ o → IfOk (in_section line r name o) IsReading
in_section-keeps line r name (Some i) h n is =
    known_analyst r i h (position-Some (λ x. bytes_eq x name) r.analysts i [] is).0
in_section-keeps line r name None h n is =
    cond-IfOk IsReading (nat_lt (length r.analysts) MAX_ANALYSTS) (Ok _) (Err (TooManyAnalysts line))
    (λ few. new_analyst r name h n is (grind (arith, nat_tests))) tt

-- an item too
new_item : (line : ℕ) (r : ReaderView) (act : Act) → IsReading r → IsAct act → length r.items < MAX_ITEMS
    → IsReading (record r { items = r.items ++ (record { line = line; analyst = r.current; act = act }) ∷ [] })
new_item line r act h is few =
    let item : Item = record { line = line; analyst = r.current; act = act } in
    let long = length_push r.items item in
    record {
      script = record {
        first = h.script.first;
        named = h.script.named;
        distinct = h.script.distinct;
        few_analysts = h.script.few_analysts;
        few_items = omega (arith, long);
        valid = All-push (IsItem (length r.analysts)) r.items item h.script.valid
            (record { analyst = h.current; act = is });
      };
      current = h.current;
    }

-- and for every meaning of a line
after_saying-keeps : (line : ℕ) (r : ReaderView) (s : ParsedLine) → IsReading r → IsParsedLine s
    → IfOk (after_saying line r s) IsReading
after_saying-keeps line r Nothing h is = h
after_saying-keeps line r (Section name) h is = in_section-keeps line r name (analyst_place name r.analysts) h is refl
after_saying-keeps line r (Action act) h is =
    cond-IfOk IsReading (nat_lt (length r.items) MAX_ITEMS) (Ok _) (Err (TooManyLines line))
    (λ few. new_item line r act h is (grind (arith, nat_tests))) tt

-- ---- after_line and after_lines

-- so does any line
after_line-keeps : (line : ℕ) (r : ReaderView) (text : List ℕ) → IsReading r → IfOk (after_line line r text) IsReading
unfolding after_line
after_line-keeps line r text h = bind-IfOk IsParsedLine IsReading (at_line line (line_saying text))
    (after_saying line r)
    (at_line-holds line (line_saying text) (line_saying-holds text)) (λ s is. after_saying-keeps line r s h is)

-- and any lines
after_lines-keep : (line : ℕ) (r : ReaderView) (ls : List (List ℕ)) → IsReading r
    → IfOk (after_lines line r ls) IsReading
unfolding after_lines
after_lines-keep line r [] h = h
after_lines-keep line r (l ∷ ls) h =
    bind-IfOk IsReading IsReading (after_line line r l) (λ next. after_lines (line + 1) next ls)
    (after_line-keeps line r l h) (λ next k. after_lines-keep (line + 1) next ls k)

-- before the first line it is so
new_reader_is_reading : IsReading new_reader
new_reader_is_reading = record {
  script = record {
    first = refl;
    named = All-cons IsName (codes "main") [] refl (All-nil IsName);
    distinct = λ i j d lt b. absurd (omega arith);
    few_analysts = omega arith;
    few_items = omega arith;
    valid = All-nil (IsItem 1);
  };
  current = record { low = omega arith; high = omega arith };
}

-- the script of a text is valid
pub read_is_script : (text : List ℕ) (r : ReaderView) → after_lines 1 new_reader (lines text) ≡ Ok r
    → IsScript (script_of r)
read_is_script text r h = let read : IsReading r =
    subst (λ x. IfOk x IsReading) h (after_lines-keep 1 new_reader (lines text) new_reader_is_reading) in read.script
