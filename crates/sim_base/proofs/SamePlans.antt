-- Planned decisions are the same exactly when they are equal.
use Rattle.std.proofs.Common.{◌≡◌, ◌==◌, ◌&&◌, true, refl, ap, subst, eqb-true, eq-eqb}
use Rattle.std.specs.Bool.{Decides}
use Rattle.std.specs.Cmp.{tied_itself, Equal-is}
use Rattle.std.specs.Ordering.{is_eq}
use Rattle.std.proofs.lemmas.Bool.{and_parts, and_from}
use Rattle.sim_base.specs.Decisions.{same_plan}
use Rattle.sim_base.specs.Order.{change_cmp}
use Rattle.sim_base.specs.declared.decision.Planned.{Planned}
use Rattle.sim_base.specs.declared.message.Change.{Change}
use Rattle.sim_base.specs.declared.message.Msg.{Msg}
use Rattle.sim_base.specs.declared.message.Payload.TheVariants.{Set}
use Rattle.sim_base.proofs.OrderLaws.{msg_total}
use Rattle.sim_base.proofs.OrderEqual.{change_same}

-- ---- change_cmp

-- a message with a change
abbrev message_of : Change → Msg
message_of c = record { key = record { time = 0; sender = 0; number = 0 }; to = 0; payload = Set c }

-- changes that tie are equal
change_equal : (a b : Change) → is_eq (change_cmp a b) ≡ true → a ≡ b
change_equal a b e = change_same a b ((Equal-is (change_cmp a b)).0 e)

-- a change ties with itself
change_itself : (a : Change) → is_eq (change_cmp a a) ≡ true
change_itself a = ap is_eq (tied_itself msg_total (message_of a))

-- ---- same_plan

-- decisions that are the same are equal
pub same_plan-equal : (p q : Planned) → same_plan p q ≡ true → p ≡ q
same_plan-equal p q e =
    let h = and_parts (p.at == q.at && p.station == q.station) (is_eq (change_cmp p.change q.change)) e in
    let f = and_parts (p.at == q.at) (p.station == q.station) h.0 in
    let at = eqb-true p.at q.at f.0 in
    let station = eqb-true p.station q.station f.1 in
    let change = change_equal p.change q.change h.1 in
    λ i. record { at = at i; station = station i; change = change i }

-- a decision is the same as itself
same_plan-itself : (p : Planned) → same_plan p p ≡ true
same_plan-itself p = and_from (p.at == p.at && p.station == p.station) (is_eq (change_cmp p.change p.change))
    (and_from (p.at == p.at) (p.station == p.station) (eq-eqb p.at p.at refl) (eq-eqb p.station p.station refl))
    (change_itself p.change)

-- two decisions are the same exactly if they are equal
pub same_plan-Decides : (p q : Planned) → Decides (same_plan p q) (p ≡ q)
same_plan-Decides p q = (same_plan-equal p q, λ e. subst (λ r. same_plan p r ≡ true) e (same_plan-itself p))
