-- The first entry beyond the limit, in the order of keys.
use Rattle.std.proofs.Common.{◌≡◌, ℕ, inl, inr, List, [], ◌∷◌, ◌++◌, length, map, refl, sym, ap, ◌∙◌}
use Rattle.std.proofs.Common.{subst, arith, Option, Some, Bool, true, false, nat_le, append-nil, append_assoc}
use Rattle.std.specs.Prelude.{if◌then◌else◌}
use Rattle.std.specs.List.{AllByRecursion, filter}
use Rattle.std.specs.declared.cmp.Ordering.{Ordering}
use Rattle.std.specs.declared.cmp.Ordering.TheVariants.{Less, Equal, Greater}
use Rattle.std.proofs.lemmas.Bool.{leb-true, le-leb}
use Rattle.std.proofs.lemmas.List.Elements.{filter-append}
use Rattle.sim_base.specs.Order.{key_cmp}
use Rattle.sim_base.specs.declared.entry.Entry.{Entry}
use Rattle.sim_base.specs.declared.entry.Line.{Line}
use Rattle.sim_base.specs.declared.message.Key.{Key}
use Rattle.sim_base.specs.declared.message.Msg.{Msg}
use Rattle.sim_base.proofs.OrderLaws.{key_total}
use Rattle.run_laws.specs.Queue.{In, Sorted}
use Rattle.run_laws.specs.World.{log_of}
use Rattle.run_laws.proofs.Lists.{append_new, filter_all, filter_none, in_append}
use Rattle.run_laws.proofs.Queue.{all_from, all_in, not_below_itself}
use Rattle.net_model.specs.Net.{Net}
use Rattle.net_model.specs.Rules.{IsNet}
use Rattle.solo_run.specs.Limit.{first_beyond, receiver}
use Rattle.solo_run.specs.SoloView.{Entries}
use Rattle.checkpoint.specs.Due.{is_less}
use Rattle.checkpoint.specs.Firsts.{FindsFirstFull, FindsFull, FirstBeyondIsFirst, entries_below}
use Rattle.checkpoint.specs.Snapshots.{onward}
use Rattle.checkpoint.proofs.KeyOrder.{keys_cmp, onward_rises}

-- the messages of entries
abbrev msgs : Entries → List Msg
msgs es = map (λ (e : Entry Msg Line). e.msg) es

-- an entry's message is among them
in_msgs : (es : Entries) (e : Entry Msg Line) → In e es → In e.msg (msgs es)
in_msgs [] e i = absurd i
in_msgs (d ∷ es) e (inl same) = inl (ap (λ (x : Entry Msg Line). x.msg) same)
in_msgs (d ∷ es) e (inr later) = inr (in_msgs es e later)

-- no key is below itself
not_below : (k : Key) → key_cmp k k ≡ Less → ⊥
not_below k = not_below_itself (key_total (λ (k : Key). k.time) (λ k. k.sender) (λ k. k.number)) k

-- a key above another is not below it
not_less : (a b : Key) → key_cmp a b ≡ Less → is_less (key_cmp b a) ≡ false
not_less a b less = by (key_cmp b a) refl
  where
    by : (o : Ordering) → key_cmp b a ≡ o → is_less o ≡ false
    by Less back = absurd (not_below a
        ((key_total (λ (k : Key). k.time) (λ k. k.sender) (λ k. k.number)).trans a b a less back))
    by Equal back = refl
    by Greater back = refl

-- nor is the key itself
own_not_less : (k : Key) → is_less (key_cmp k k) ≡ false
own_not_less k = by (key_cmp k k) refl
  where
    by : (o : Ordering) → key_cmp k k ≡ o → is_less o ≡ false
    by Less is = absurd (not_below k is)
    by Equal is = refl
    by Greater is = refl

-- in a rising list all entries before another have lower keys
all_before : (done : Entries) (e : Entry Msg Line) (rest : Entries) → Sorted keys_cmp (msgs (done ++ e ∷ rest))
    → AllByRecursion (λ d. key_cmp d.msg.key e.msg.key ≡ Less) done
all_before [] e rest s = tt
all_before (d ∷ done) e rest s = (
  all_in (λ (z : Msg). keys_cmp d.msg z ≡ Less) (msgs (done ++ e ∷ rest)) e.msg s.0
      (in_msgs (done ++ e ∷ rest) e (append_new done (e ∷ rest) e (inl refl))),
  all_before done e rest s.1,
)

-- and all after it have higher ones
all_after : (done : Entries) (e : Entry Msg Line) (rest : Entries) → Sorted keys_cmp (msgs (done ++ e ∷ rest))
    → AllByRecursion (λ d. key_cmp e.msg.key d.msg.key ≡ Less) rest
all_after [] e rest s = all_from (λ (d : Entry Msg Line). key_cmp e.msg.key d.msg.key ≡ Less) rest
    (λ d i. all_in (λ (z : Msg). keys_cmp e.msg z ≡ Less) (msgs rest) d.msg s.0 (in_msgs rest d i))
all_after (d ∷ done) e rest s = all_after done e rest s.1

module _ (limit : ℕ) (past es : Entries) (rises : Sorted keys_cmp (msgs es)) where
  module _ (done : Entries) (e : Entry Msg Line) (rest : Entries) (parts : es ≡ done ++ e ∷ rest) where
    sorted_parts : Sorted keys_cmp (msgs (done ++ e ∷ rest))
    sorted_parts = subst (λ (l : Entries). Sorted keys_cmp (msgs l)) parts rises

    -- the entries with lower keys are those before it
    below_are : entries_below e.msg.key es ≡ done
    below_are =
        let is_below : Entry Msg Line → Bool = λ d. is_less (key_cmp d.msg.key e.msg.key) in
        let lower = filter_all is_below done (all_from (λ (d : Entry Msg Line). is_below d ≡ true) done
        (λ d i. ap is_less (all_in (λ (z : Entry Msg Line). key_cmp z.msg.key e.msg.key ≡ Less) done d
        (all_before done e rest sorted_parts) i))) in
        let none = filter_none is_below (e ∷ rest) (
          own_not_less e.msg.key,
          all_from (λ (d : Entry Msg Line). is_below d ≡ false) rest (λ d i. not_less e.msg.key d.msg.key
              (all_in (λ (z : Entry Msg Line). key_cmp e.msg.key z.msg.key ≡ Less) rest d
              (all_after done e rest sorted_parts) i)),
        ) in
        ap (filter is_below) parts ∙ filter-append is_below done (e ∷ rest)
        ∙ ap (λ (l : Entries). l ++ filter is_below (e ∷ rest)) lower ∙ ap (λ (l : Entries). done ++ l) none
        ∙ append-nil done

    -- so it finds as many entries of its station as the code has seen
    finds_seen : length (log_of receiver e.msg.to (past ++ entries_below e.msg.key es))
        ≡ length (log_of receiver e.msg.to (past ++ done))
    finds_seen = ap (λ (l : Entries). length (log_of receiver e.msg.to (past ++ l))) below_are

    is_among : In e es
    is_among = subst (In e) (sym parts) (append_new done (e ∷ rest) e (inl refl))

    -- an entry with a lower key is one before it
    lower_is_before : (d : Entry Msg Line) → In d es → key_cmp d.msg.key e.msg.key ≡ Less → In d done
    lower_is_before d i less = elim (in_append done (e ∷ rest) d (subst (In d) parts i)) [
      | inl first ↦ first
      | inr later ↦ elim later [
        | inl same ↦ absurd (not_below e.msg.key
            (subst (λ (z : Entry Msg Line). key_cmp z.msg.key e.msg.key ≡ Less) same less))
        | inr above ↦
            let up = all_in (λ (z : Entry Msg Line). key_cmp e.msg.key z.msg.key ≡ Less) rest d
            (all_after done e rest sorted_parts) above in
            absurd (not_below e.msg.key
            ((key_total (λ (k : Key). k.time) (λ k. k.sender) (λ k. k.number)).trans e.msg.key d.msg.key e.msg.key up
            less))
      ]
    ]

  finds_from : (done rest : Entries) → es ≡ done ++ rest
      → ((d : Entry Msg Line) → In d done → ¬ FindsFull limit past es d)
      → FindsFirstFull limit past es (first_beyond limit (past ++ done) rest)
  finds_from done [] parts none = λ e is.
      none e (subst (In e) (parts ∙ append-nil done) is.is_one) is
  finds_from done (e ∷ rest) parts none =
      by (nat_le limit (length (log_of receiver e.msg.to (past ++ done)))) refl
      (λ still. subst (λ (l : Entries). FindsFirstFull limit past es (first_beyond limit l rest))
      (sym (append_assoc past done (e ∷ [])))
      (finds_from (done ++ e ∷ []) rest (parts ∙ sym (append_assoc done (e ∷ []) rest)) still))
    where
      later : Option ℕ
      later = first_beyond limit ((past ++ done) ++ e ∷ []) rest

      by : (b : Bool) → nat_le limit (length (log_of receiver e.msg.to (past ++ done))) ≡ b
          → (((d : Entry Msg Line) → In d (done ++ e ∷ []) → ¬ FindsFull limit past es d)
          → FindsFirstFull limit past es later)
          → FindsFirstFull limit past es (if b then Some e.msg.to else later)
      by true full next =
          let most = leb-true limit (length (log_of receiver e.msg.to (past ++ done))) full in
          let seen = finds_seen done e rest parts in
          record {
            entry = e;
            is_for = refl;
            finds_full = record { is_one = is_among done e rest parts; full = omega (arith, most, seen) };
            none_before = λ d less is. none d (lower_is_before done e rest parts d is.is_one less) is;
          }
      by false room next =
          let not_here : ¬ FindsFull limit past es e = λ is.
          let most = is.full in
          let seen = finds_seen done e rest parts in
          let full : nat_le limit (length (log_of receiver e.msg.to (past ++ done))) ≡ true =
          le-leb limit (length (log_of receiver e.msg.to (past ++ done))) (omega (arith, most, seen)) in
          absurd (cc) in
          next (λ d i is. elim (in_append done (e ∷ []) d i) [
            | inl first ↦ none d first is
            | inr last ↦ elim last [
              | inl same ↦ not_here (subst (FindsFull limit past es) same is)
              | inr nothing ↦ absurd nothing
            ]
          ])

pub first_beyond_is_first : (net : Net) → IsNet net → FirstBeyondIsFirst net
first_beyond_is_first net valid x past ok =
    subst (λ (l : Entries). FindsFirstFull net.limit past (onward net x) (first_beyond net.limit l (onward net x)))
    (append-nil past)
    (finds_from net.limit past (onward net x) (onward_rises net valid x ok) [] (onward net x) refl
    (λ d i. absurd i))
