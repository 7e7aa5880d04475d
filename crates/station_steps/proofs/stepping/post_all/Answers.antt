use Rattle.std.proofs.Common.{◌<◌, arith, length, subst}
use Rattle.station_steps.specs.Windows.{IsDeliveredTo, mail_for}
use Rattle.station_steps.proofs.Posting.{PostedTo-all, PostedTo-next, PostedTo-others}
use Rattle.station_steps.proofs.stepping.post_all.Goals as goal

pub loop-i-preserved : goal.loop-i-preserved
loop-i-preserved c =
    let ms = c.args.mail.now.value in
    let olds = c.args.procs.now.items in
    let i = c.loop-i.i in
    let was = c.index_mut.result.now in
    let l : i < length olds =
    omega (arith, c.loop-i-test.true, c.loop-i.auto.i-end, c.len-i-end.ensures, c.args.procs.now.ok.0) in
    let there = PostedTo-others ms i olds c.loop-i.procs.items was c.loop-i.invariant l c.index_mut.ensures.value in
    PostedTo-next ms i olds c.loop-i.procs.items was c.post.new.self c.loop-i.invariant l c.index_mut.ensures.value
    (subst (λ s. IsDeliveredTo (mail_for s ms) was c.post.new.self)
    (c.requires.stations.1.procs_in_order i was there).number c.in_ok-post.ensures.given)

pub returns : goal.returns
returns c = record {
  given = PostedTo-all c.args.mail.now.value c.loop-i.i c.args.procs.now.items c.loop-i.procs.items
      (omega (arith, c.loop-i-test.false, c.loop-i.auto.i-end, c.len-i-end.ensures, c.args.procs.now.ok.0))
      c.loop-i.invariant;
}
