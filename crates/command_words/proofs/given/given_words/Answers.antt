use Rattle.std.proofs.Common.{◌≡◌, ap, ◌∙◌, map, map-id, [], None, Some, subst, option_and_then}
use Rattle.clap.specs.Words.{App, app_of, is_simple, is_simple_and_free, fault_of}
use Rattle.clap.specs.Words.{matches_of, HasKind, rows_of, found_of}
use Rattle.command_words.specs.Application.{cloner_app}
use Rattle.command_words.specs.Clap.{clap_values, up_to_four}
use Rattle.command_words.specs.Rules.{values}
use Rattle.command_words.specs.Views.{given_view}
use Rattle.command_words.proofs.Bridge.{clap_finds_the_values}
use Rattle.command_words.proofs.Forms.{form_found}
use Rattle.command_words.proofs.Parse.{is_simple-cloner_app, is_simple_and_free-cloner_app, refused_words, read_words}
use Rattle.command_words.proofs.given.given_words.Goals as goal

pub returns-in-Err : goal.returns-in-Err
returns-in-Err c =
    let is : app_of c.in_ok-command.field-0 ≡ cloner_app = c.in_ok-command.ensures.value in
    let words = map (λ w. w) c.args.words.now in
    let fails : HasKind (fault_of cloner_app words) c.in-Err.error =
    subst (λ (a : App). HasKind (fault_of a words) c.in-Err.error) is
    (c.in-Err.ensures.kinds (ap is_simple_and_free is ∙ is_simple_and_free-cloner_app)) in
    let same : None ≡ option_and_then up_to_four (values c.args.words.now) =
    refused_words words c.in-Err.error fails (λ k. let bad = c.if-is_memory.ensures.value.1 k in absurd cc)
    ∙ ap clap_values (map-id c.args.words.now)
    ∙ clap_finds_the_values c.args.words.now c.recall_texts.ensures.texts in
    record { value = same; asks = form_found c.args.words.now None same }

pub returns : goal.returns
returns c =
    let is : app_of c.in_ok-command.field-0 ≡ cloner_app = c.in_ok-command.ensures.value in
    let words = map (λ w. w) c.args.words.now in
    let none : fault_of cloner_app words ≡ [] =
    subst (λ (a : App). fault_of a words ≡ []) is
    (c.in-Ok.ensures.kinds (ap is_simple_and_free is ∙ is_simple_and_free-cloner_app)) in
    let rows : rows_of (found_of c.in-Ok.matches) ≡ matches_of cloner_app words =
    (c.in-Ok.ensures.matches (ap is_simple is ∙ is_simple-cloner_app)).0 ∙ ap (λ a. matches_of a words) is in
    let same : Some (given_view (record {
      mode = c.get_str.result;
      first = c.get_str-2.result;
      second = c.get_str-3.result;
      third = c.get_str-4.result;
      workers = c.get_str-5.result;
      clone = c.get_str-6.result;
      until = c.get_str-7.result;
    })) ≡ option_and_then up_to_four (values c.args.words.now) = rw (
      c.get_str.ensures,
      c.get_str-2.ensures,
      c.get_str-3.ensures,
      c.get_str-4.ensures,
      c.get_str-5.ensures,
      c.get_str-6.ensures,
      c.get_str-7.ensures,
    ) (read_words words c.in-Ok.matches none rows ∙ ap clap_values (map-id c.args.words.now)
    ∙ clap_finds_the_values c.args.words.now c.recall_texts.ensures.texts) in
    record { value = same; asks = form_found c.args.words.now (Some _) same }
