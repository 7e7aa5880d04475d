use Rattle.std.proofs.Common.{◌≡◌, ap, ◌∙◌, subst, arith}
use Rattle.sim_base.specs.Clones.{clone_at}
use Rattle.net_model.specs.Net.{Net}
use Rattle.stations.specs.Runs.{trace_of}
use Rattle.trace_writer.specs.Words.{first_word}
use Rattle.trace_writer.specs.Kept.{AreMarksOf, IsKept, IsPutTo, lines_text}
use Rattle.trace_writer.specs.Pages.{IsPast}
use Rattle.trace_writer.specs.Puts.{IsCutOff}
use Rattle.trace_writer.specs.WorldTraces.{WorldTracesView}
use Rattle.trace_writer.specs.declared.texts.Texts.{Texts}
use Rattle.trace_writer.proofs.LinePuts.{first_lines, rest_taken}
use Rattle.trace_writer.proofs.LogLaws.{counted_seen}
use Rattle.trace_writer.proofs.Logs.{trace_rises}
use Rattle.trace_writer.proofs.text_rest.put_rest.Goals as goal

pub first_word-end-requires : goal.first_word-end-requires
first_word-end-requires g c =
    let valid = c.horizon.ensures.valid in
    let most = valid.horizon_max in
    record { fits = omega (arith, c.horizon.ensures.value, most) }

pub returns-in-Ok : goal.returns-in-Ok
returns-in-Ok g c =
    let v = c.args.traces.now in
    let p = c.place_in-place in
    let few = counted_seen c.traces.inside.world.now c.traces.invariant.may_trace.over v _ c.traces.view_is
    c.args.rest.c p.result p.ensures.in_range p.ensures.same in
    let valid = c.len-clones.ensures.valid in
    let clone = clone_at v.clones c.args.rest.c in
    let tr = trace_of v.net clone in
    let is : c.model-model.result.now ≡ v.net =
    c.model-model.ensures.value ∙ ap (λ (w : WorldTracesView). w.net) c.traces.view_is in
    let end : c.first_word-end.result ≡ first_word v.net.horizon =
    c.first_word-end.ensures.value ∙ ap first_word (c.horizon.ensures.value ∙ ap (λ (n : Net). n.horizon) is) in
    let may = c.requires.may in
    let put = c.in-Ok.ensures in
    let last = c.put_lines.new.texts in
    let begun : Texts = record c.args.texts.now { merge = c.fill_merge.new.merge } in
    record {
      put = record {
        ok = rest_taken v.net valid clone few c.args.rest.from c.fill_merge.new.merge.left last.merge.left
            (g.O.Sink.view c.args.out.now) (g.O.Sink.view c.put_lines.new.out) c.fill_merge.ensures.left
            (subst (λ (n : Net). IsPutTo n c.fill_merge.new.merge.left last.merge.left (g.O.Sink.view c.args.out.now)
            (g.O.Sink.view c.put_lines.new.out)) is put.ok)
            (subst (λ n. IsPast n last.merge.left) end put.past);
        err = tt;
        marks = subst (λ (n : Net). IsKept n tr c.args.rest.kept_until begun
            → AreMarksOf n tr last.text.items last.marks.items) is
            (put.marks tr (trace_rises v.net valid clone few))
            (record {
              first = λ some. first_lines v.net valid clone few c.args.rest.from begun (may.text_is some)
                  c.fill_merge.ensures.left;
              marks = may.marks;
            });
        can = record {
          most = put.memory.most ∙ c.fill_merge.ensures.most ∙ may.can.most;
          page = let a = put.memory.page in let b = may.can.page in omega (arith, a, b);
        };
      };
    }

pub returns-in-Err : goal.returns-in-Err
returns-in-Err g c =
    let v = c.args.traces.now in
    let is : c.model-model.result.now ≡ v.net =
    c.model-model.ensures.value ∙ ap (λ (w : WorldTracesView). w.net) c.traces.view_is in
    let may = c.requires.may in
    let put = c.in-Err.ensures in
    record {
      put = record {
        ok = tt;
        err = subst (λ es. IsCutOff (lines_text v.net es) (g.O.Sink.view c.args.out.now)
            (g.O.Sink.view c.put_lines.new.out)) c.fill_merge.ensures.left
            (subst (λ (n : Net). IsCutOff (lines_text n c.fill_merge.new.merge.left) (g.O.Sink.view c.args.out.now)
            (g.O.Sink.view c.put_lines.new.out)) is put.err);
        marks = tt;
        can = record {
          most = put.memory.most ∙ c.fill_merge.ensures.most ∙ may.can.most;
          page = let a = put.memory.page in let b = may.can.page in omega (arith, a, b);
        };
      };
    }
