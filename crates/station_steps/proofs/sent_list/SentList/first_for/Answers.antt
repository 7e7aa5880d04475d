use Rattle.std.proofs.Common.{arith, sym, subst}
use Rattle.std.proofs.lemmas.List.{get_or_past, get_or_read}
use Rattle.station_steps.specs.Mail.{IsFirstFor, SentView}
use Rattle.station_steps.proofs.TakenMail.{IsFirstFor-noted}
use Rattle.station_steps.proofs.sent_list.SentList.first_for.Goals as goal

pub returns-then-place-len : goal.returns-then-place-len
returns-then-place-len c =
    let firsts = c.self.inside.firsts.items in
    let messages = c.self.inside.messages in
    let s = c.args.station in
    let first = c.index.result.now in
    record {
      first = subst (λ (v : SentView). IsFirstFor s v.items first) c.self.view_is (subst (IsFirstFor s messages)
          (sym (get_or_read firsts s first
          (omega (arith, c.if-place-len.true, c.len.ensures, c.self.inside.firsts.ok.0)) c.index.ensures 0))
          (IsFirstFor-noted firsts s messages c.self.invariant));
    }

pub returns-else-place-len : goal.returns-else-place-len
returns-else-place-len c =
    let firsts = c.self.inside.firsts.items in
    let messages = c.self.inside.messages in
    let s = c.args.station in
    record {
      first = subst (λ (v : SentView). IsFirstFor s v.items 0) c.self.view_is (subst (IsFirstFor s messages)
          (get_or_past firsts s 0 (omega (arith, c.if-place-len.false, c.len.ensures, c.self.inside.firsts.ok.0)))
          (IsFirstFor-noted firsts s messages c.self.invariant));
    }
