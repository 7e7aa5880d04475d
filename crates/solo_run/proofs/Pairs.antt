-- Inserting a message among pairs inserts it among their messages.
use Rattle.std.proofs.Common.{◌≡◌, refl, ap, List, [], ◌∷◌, Ordering, Less, Equal, Greater}
use Rattle.sim_base.specs.Order.{msg_cmp}
use Rattle.sim_base.specs.Pending.{place_marked, insert_marked}
use Rattle.sim_base.specs.declared.message.Msg.{Msg}
use Rattle.run_laws.specs.Queue.{insert_by, insert}
use Rattle.solo_run.specs.EventLists.{messages_of}

-- a message put at its place among pairs, by how it compares to the first of them
messages_of-place : (o : Ordering) (join : Unit {0} → Unit {0} → Unit {0}) (m : Msg) (y : Msg × Unit {0})
    (ys rest : List (Msg × Unit {0})) (after : List Msg) → messages_of rest ≡ after
    → messages_of (place_marked join o m tt y ys rest) ≡ insert_by o m y.0 (messages_of ys) after
messages_of-place Less join m y ys rest after is = refl
messages_of-place Equal join m y ys rest after is = refl
messages_of-place Greater join m y ys rest after is = ap (λ t. y.0 ∷ t) is

-- a message inserted among pairs is inserted among their messages
pub messages_of-insert : (join : Unit {0} → Unit {0} → Unit {0}) (m : Msg) (ys : List (Msg × Unit {0}))
    → messages_of (insert_marked join msg_cmp m tt ys) ≡ insert msg_cmp m (messages_of ys)
messages_of-insert join m [] = refl
messages_of-insert join m (y ∷ ys) = messages_of-place (msg_cmp m y.0) join m y ys (insert_marked join msg_cmp m tt ys)
    (insert msg_cmp m (messages_of ys)) (messages_of-insert join m ys)
