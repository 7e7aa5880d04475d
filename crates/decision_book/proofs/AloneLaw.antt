-- The decisions that reach one clone lead to the same list and end as all decisions.
use Rattle.std.proofs.Common.{◌≡◌, ℕ, ◌+◌, ◌≤◌, Bool, true, false, nat_le, cond, List}
use Rattle.std.proofs.Common.{[], ◌∷◌, ◌++◌, length, refl, sym, ap, ◌∙◌, arith, Option}
use Rattle.std.proofs.Common.{Some, None, is_some, unwrap_or, slice_set, subst, length-set}
use Rattle.std.proofs.lemmas.List.{length_push}
use Rattle.std.specs.Option.{option_or}
use Rattle.std.specs.Str.{bytes_eq}
use Rattle.std.proofs.lemmas.Bool.Decides.{nat_tests}
use Rattle.sim_base.specs.declared.decision.Decision.{Decision}
use Rattle.sim_base.specs.declared.decision.Decision.TheVariants.{Fork, Set, End}
use Rattle.sim_base.specs.Clones.{Clone, clone_at, place_of, clones_with_fork, base, fork_of}
use Rattle.sim_base.specs.declared.lists.TheConstants.{MAX_CLONES}
use Rattle.net_model.specs.Net.{Net}
use Rattle.decision_book.specs.declared.call.Reply.TheVariants.{Accepted, NameTaken, TooManyClones}
use Rattle.decision_script.specs.Alone.{history, history_if, changed_clone}
use Rattle.sim_base.specs.Decisions.{subject}
use Rattle.decision_book.specs.Journal.{Situation, clones_after, plan_of_set}
use Rattle.decision_book.specs.Replies.{row, first_row, reply, rows, fork_rows}
use Rattle.decision_book.specs.Scripts.{after_decision, after_all, first_refusal_from}
use Rattle.decision_book.specs.Laws.{clone_named, AloneSuffices}
use Rattle.decision_book.proofs.ClonesByName.{IsCloneNamed-clone_named, place_of-none}
use Rattle.decision_book.proofs.ClonesByName.{clone_named-place, clone_named-none}
use Rattle.decision_book.proofs.ClonesByName.{clone_named-push, clone_named-set, same_name, name_itself, name_at}
use Rattle.decision_book.proofs.Rows.{IsOpen, IsOpen-accepted, first_row-Accepted, reply-IsOpen}
use Rattle.decision_book.proofs.Scripts.{accepted_first, after_decision-accepted}

-- ---- HasSameClone

-- two states, of which the second knows no other clones, no more of them, and the same clone of this name
record HasSameClone (t : List ℕ) (full own : List Clone) : Type 0 where
  pub same : clone_named t full ≡ clone_named t own
  pub fewer : (n : List ℕ) → clone_named n full ≡ None → clone_named n own ≡ None
  pub shorter : length own ≤ length full

-- these clones at front 0, after this number of calls
abbrev at_opening : Net → ℕ → List Clone → Situation
at_opening net calls clones = record { net = net; clones = clones; front = 0; calls = calls }

-- the same clone in both
record InBoth (j k : Situation) (d : Decision) : Type 0 where
  pub found : IsOpen j d
  pub place : ℕ
  pub placed : place_of (subject d) k.clones ≡ Some place
  pub clone : clone_at k.clones place ≡ clone_at j.clones found.clone

-- if the clone of a name is the same in both states, an accepted decision finds it in the other too
in_both : (j k : Situation) (d : Decision) → reply j d ≡ Accepted → HasSameClone (subject d) j.clones k.clones
    → InBoth j k d
in_both j k d h s =
    let found = IsOpen-accepted j d h in
    let at = IsCloneNamed-clone_named (subject d) k.clones (clone_at j.clones found.clone)
    (sym s.same ∙ clone_named-place (subject d) j.clones found.clone found.place) in
    record { found = found; place = at.at; placed = at.place; clone = at.clone }

-- ---- fork_rows

-- an answer that is absent is None
is_none_from : {X : Type 0} (o : Option X) → is_some o ≡ false → o ≡ None
is_none_from None h = refl
is_none_from (Some x) h = absurd cc

-- a fork that is refused for its name is not accepted
not_taken : NameTaken ≡ Accepted → ⊥
not_taken h = cc

-- nor is one that is refused for the number of clones
not_many : TooManyClones ≡ Accepted → ⊥
not_many h = cc

-- the rows of an accepted fork
record IsFresh (clones : List Clone) (new : List ℕ) : Type 0 where
  pub fresh : place_of new clones ≡ None
  pub at_most : nat_le MAX_CLONES (length clones) ≡ false

-- the rows of an accepted fork hold nowhere, so its name is new and there is a free place
fresh_from : (clones : List Clone) (new : List ℕ) → first_row (fork_rows clones new) ≡ Accepted → IsFresh clones new
fresh_from clones new h =
    let one = first_row-Accepted (is_some (place_of new clones)) NameTaken
    (row (nat_le MAX_CLONES (length clones)) TooManyClones ∷ []) not_taken h in
    let two = first_row-Accepted (nat_le MAX_CLONES (length clones)) TooManyClones [] not_many one.1 in
    record { fresh = is_none_from (place_of new clones) one.0; at_most = two.0 }

-- and this is so in a state with no other clones, and no more of them
fresh_again : {t : List ℕ} (full own : List Clone) (new : List ℕ) → HasSameClone t full own → IsFresh full new
    → IsFresh own new
fresh_again full own new s f = record {
  fresh = place_of-none new own (s.fewer new (clone_named-none new full f.fresh));
  at_most = (let few = f.at_most in let less = s.shorter in grind (arith, nat_tests));
}

-- ---- reply, in another state

-- conditions that an accepted decision meets in one state it meets in the other
rows_again : (net : Net) (n m : ℕ) (full own : List Clone) (d : Decision) (i k : ℕ) → HasSameClone (subject d) full own
    → clone_at own k ≡ clone_at full i
    → first_row (rows (at_opening net n full) i d) ≡ Accepted → first_row (rows (at_opening net m own) k d) ≡ Accepted
rows_again net n m full own (Fork new old) i k s e h =
    let f = fresh_again full own new s (fresh_from full new h) in
    rw (f.fresh, f.at_most) refl
rows_again net n m full own (Set who at station change) i k s e h = rw e h
rows_again net n m full own (End who at) i k s e h = h

-- an accepted decision at front 0 is also accepted after no more calls, among no more clones, none new, its subject the
-- same
reply-again : (net : Net) (n m : ℕ) (full own : List Clone) (d : Decision) → m ≤ n → HasSameClone (subject d) full own
    → reply (at_opening net n full) d ≡ Accepted → reply (at_opening net m own) d ≡ Accepted
reply-again net n m full own d less s h =
    let b = in_both (at_opening net n full) (at_opening net m own) d h s in
    reply-IsOpen (at_opening net m own) d (record {
      at_most = (let few = b.found.at_most in grind (arith, nat_tests));
      running = b.found.running;
      clone = b.place;
      place = b.placed;
      going = ap (λ c. c.end) b.clone ∙ b.found.going;
      rest = rows_again net n m full own d b.found.clone b.place s b.clone b.found.rest;
    })

-- ---- clones_after, by names

-- the effect of a decision on its clone
abbrev made : Net → Decision → Clone → Clone
made net (Fork new old) k = fork_of k new
made net (Set who at station change) k = record k { plans = k.plans ++ plan_of_set net at station change ∷ [] }
made net (End who at) k = record k { end = Some at }

-- the number of clones that a decision adds
abbrev clones_added : Decision → ℕ
clones_added (Fork new old) = 1
clones_added (Set who at station change) = 0
clones_added (End who at) = 0

-- the effect of an accepted decision on the clones, by their names
record Effect (net : Net) (d : Decision) (before next : List Clone) (i : ℕ) : Type 0 where
  pub self : clone_named (changed_clone d) next ≡ Some (made net d (clone_at before i))
  pub others : (m : List ℕ) → bytes_eq (changed_clone d) m ≡ false → clone_named m next ≡ clone_named m before
  pub none : (m : List ℕ) → clone_named m next ≡ None → bytes_eq (changed_clone d) m ≡ false
  pub length_is : length next ≡ length before + clones_added d

-- an option, or else none, is the option
option_or-none : (o : Option Clone) → option_or o None ≡ o
option_or-none None = refl
option_or-none (Some k) = refl

-- if the pushed clone is not found, the name is not its own
pushed_none : (o : Option Clone) (b : Bool) (k : Clone) → option_or o (cond b (Some k) None) ≡ None → b ≡ false
pushed_none None true k h = absurd cc
pushed_none None false k h = refl
pushed_none (Some c) b k h = absurd cc

-- nor is it if the changed clone is not found
set_none : (b : Bool) (k : Clone) (o : Option Clone) → cond b (Some k) o ≡ None → b ≡ false
set_none true k o h = absurd cc
set_none false k o h = refl

-- the effect of a fork on the clones, by their names
fork_effect : (net : Net) (clones : List Clone) (new old : List ℕ) (i : ℕ) → place_of new clones ≡ None
    → Effect net (Fork new old) clones (clones_with_fork clones new i) i
fork_effect net clones new old i fresh =
    let k : Clone = fork_of (clone_at clones i) new in
    record {
      self = clone_named-push new clones k ∙ ap (λ o. option_or o (cond (bytes_eq new new) (Some k) None))
          (clone_named-none new clones fresh) ∙ ap (λ b. cond b (Some k) None) (name_itself new);
      others = λ m other. clone_named-push m clones k
          ∙ ap (λ b. option_or (clone_named m clones) (cond b (Some k) None)) other
          ∙ option_or-none (clone_named m clones);
      none = λ m gone. pushed_none (clone_named m clones) (bytes_eq new m) k (sym (clone_named-push m clones k) ∙ gone);
      length_is = length_push clones k;
    }

-- the effect of a set or an end on them
change_effect : (net : Net) (d : Decision) (clones : List Clone) (i : ℕ) → clones_added d ≡ 0
    → place_of (changed_clone d) clones ≡ Some i → (made net d (clone_at clones i)).name ≡ changed_clone d
    → Effect net d clones (slice_set clones i (made net d (clone_at clones i))) i
change_effect net d clones i none place name =
    let k = made net d (clone_at clones i) in
    record {
      self = clone_named-set (changed_clone d) (changed_clone d) clones i k place name
          ∙ ap (λ b. cond b (Some k) (clone_named (changed_clone d) clones)) (name_itself (changed_clone d));
      others = λ m other. clone_named-set m (changed_clone d) clones i k place name
          ∙ ap (λ b. cond b (Some k) (clone_named m clones)) other;
      none = λ m gone. set_none (bytes_eq (changed_clone d) m) k (clone_named m clones)
          (sym (clone_named-set m (changed_clone d) clones i k place name) ∙ gone);
      length_is = omega (arith, length-set clones i k, none);
    }

-- the effect of each accepted decision on them
effect : (net : Net) (n : ℕ) (clones : List Clone) (d : Decision) (o : IsOpen (at_opening net n clones) d)
    → Effect net d clones (clones_after net clones d) o.clone
effect net n clones (Fork new old) o =
    let f = fresh_from clones new o.rest in
    subst (λ (i : ℕ). Effect net (Fork new old) clones (clones_with_fork clones new i) o.clone)
    (sym (ap (λ p. unwrap_or p 0) o.place)) (fork_effect net clones new old o.clone f.fresh)
effect net n clones (Set who at station change) o =
    let d : Decision = Set who at station change in
    subst (λ (i : ℕ). Effect net d clones (slice_set clones i (made net d (clone_at clones i))) o.clone)
    (sym (ap (λ p. unwrap_or p 0) o.place))
    (change_effect net d clones o.clone refl o.place (name_at who clones o.clone o.place))
effect net n clones (End who at) o =
    let d : Decision = End who at in
    subst (λ (i : ℕ). Effect net d clones (slice_set clones i (made net d (clone_at clones i))) o.clone)
    (sym (ap (λ p. unwrap_or p 0) o.place))
    (change_effect net d clones o.clone refl o.place (name_at who clones o.clone o.place))

-- ---- history

-- a decision of the history keeps the two states alike, at the clone that it makes or changes
history_same : (net : Net) (n m : ℕ) (full own : List Clone) (d : Decision) → m ≤ n → HasSameClone (subject d) full own
    → reply (at_opening net n full) d ≡ Accepted
    → HasSameClone (changed_clone d) (clones_after net full d) (clones_after net own d)
history_same net n m full own d less s h =
    let b = in_both (at_opening net n full) (at_opening net m own) d h s in
    let mine = IsOpen-accepted (at_opening net m own) d (reply-again net n m full own d less s h) in
    let all = effect net n full d b.found in
    let part = effect net m own d mine in
    let place : mine.clone ≡ b.place = cc in
    let clones : clone_at own mine.clone ≡ clone_at full b.found.clone = ap (clone_at own) place ∙ b.clone in
    record {
      same = all.self ∙ sym (part.self ∙ ap (λ k. Some (made net d k)) clones);
      fewer = λ q gone. (let other = all.none q gone in
          part.others q other ∙ s.fewer q (sym (all.others q other) ∙ gone));
      shorter = omega (arith, all.length_is, part.length_is, s.shorter);
    }

-- another decision leaves them alike
dropped_same : (net : Net) (n : ℕ) (t : List ℕ) (full own : List Clone) (d : Decision)
    → bytes_eq (changed_clone d) t ≡ false → HasSameClone t full own → reply (at_opening net n full) d ≡ Accepted
    → HasSameClone t (clones_after net full d) own
dropped_same net n t full own d other s h =
    let all = effect net n full d (IsOpen-accepted (at_opening net n full) d h) in
    record {
      same = all.others t other ∙ s.same;
      fewer = λ q gone. s.fewer q (sym (all.others q (all.none q gone)) ∙ gone);
      shorter = omega (arith, all.length_is, s.shorter);
    }

-- ---- alone

-- the result of the clone's own decisions, from their place on
record IsAloneFrom (net : Net) (m k : ℕ) (own : List Clone) (ds : List Decision) (who : List ℕ)
    (end : List Clone) : Type 0 where
  pub accepted : first_refusal_from (at_opening net m own) k ds ≡ None
  pub same : clone_named who (after_all (at_opening net m own) ds).clones ≡ clone_named who end

-- one decision of the history before the others
history_first : (net : Net) (m k : ℕ) (own : List Clone) (d : Decision) (ds : List Decision) (who : List ℕ)
    (end : List Clone) → reply (at_opening net m own) d ≡ Accepted
    → IsAloneFrom net (m + 1) (k + 1) (clones_after net own d) ds who end → IsAloneFrom net m k own (d ∷ ds) who end
history_first net m k own d ds who end h on =
    record {
      accepted = rw h on.accepted;
      same = subst (λ (t : Situation). clone_named who (after_all t ds).clones ≡ clone_named who end)
          (sym (after_decision-accepted (at_opening net m own) d h)) on.same;
    }

-- one decision before the others, whether it is of the history or not
alone_by : (net : Net) (n m k : ℕ) (who : List ℕ) (full own end : List Clone) (d : Decision)
    (rest : List ℕ × List Decision) → m ≤ n → reply (at_opening net n full) d ≡ Accepted
    → ((l j : ℕ) (mine : List Clone) → l ≤ n + 1 → HasSameClone rest.0 (clones_after net full d) mine
    → IsAloneFrom net l j mine rest.1 who end)
    → (b : Bool) → bytes_eq (changed_clone d) rest.0 ≡ b → HasSameClone (history_if b d (subject d) rest).0 full own
    → IsAloneFrom net m k own (history_if b d (subject d) rest).1 who end
alone_by net n m k who full own end d rest less h go true e s =
    let after = history_same net n m full own d less s h in
    let on = go (m + 1) (k + 1) (clones_after net own d) (omega arith)
    (subst (λ (t : List ℕ). HasSameClone t (clones_after net full d) (clones_after net own d))
    (same_name (changed_clone d) rest.0 e) after) in
    history_first net m k own d rest.1 who end (reply-again net n m full own d less s h) on
alone_by net n m k who full own end d rest less h go false e s =
    go m k own (omega arith) (dropped_same net n rest.0 full own d e s h)

-- if no decision is refused, those of one clone suffice, from a state that is the same for its ancestor
alone_from : (net : Net) (n i m k : ℕ) (who : List ℕ) (full own : List Clone) (ds : List Decision) → m ≤ n
    → HasSameClone (history who ds).0 full own → first_refusal_from (at_opening net n full) i ds ≡ None
    → IsAloneFrom net m k own (history who ds).1 who (after_all (at_opening net n full) ds).clones
alone_from net n i m k who full own [] less s h = record { accepted = refl; same = sym s.same }
alone_from net n i m k who full own (d ∷ ds) less s h =
    let one = accepted_first i (reply (at_opening net n full) d)
    (first_refusal_from (after_decision (at_opening net n full) d) (i + 1) ds) h in
    let moved = after_decision-accepted (at_opening net n full) d one.0 in
    let rest : first_refusal_from (at_opening net (n + 1) (clones_after net full d)) (i + 1) ds ≡ None =
    subst (λ (t : Situation). first_refusal_from t (i + 1) ds ≡ None) moved one.1 in
    let end = (after_all (at_opening net (n + 1) (clones_after net full d)) ds).clones in
    subst (λ (t : Situation). IsAloneFrom net m k own (history who (d ∷ ds)).1 who (after_all t ds).clones) (sym moved)
    (alone_by net n m k who full own end d (history who ds) less one.0
    (λ l j mine most alike. alone_from net (n + 1) (i + 1) l j who (clones_after net full d) mine ds most alike rest)
    (bytes_eq (changed_clone d) (history who ds).0) refl s)

-- if no decision is refused, those that reach a clone are all accepted and lead to the same list and end
pub alone_suffices : (net : Net) → AloneSuffices net
alone_suffices net who ds h =
    let a = alone_from net 0 0 0 0 who (base ∷ []) (base ∷ []) ds (omega arith)
    (record { same = refl; fewer = λ n gone. gone; shorter = omega arith }) h in
    record { accepted = a.accepted; same = a.same }
