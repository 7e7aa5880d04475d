use Rattle.decision_book.proofs.JournalScripts.{journal_is_script, closed_changes_nothing}
use Rattle.decision_book.proofs.laws.journals_are_scripts.Goals as goal

pub returns-clause-script : goal.returns-clause-script
returns-clause-script c = journal_is_script

pub returns-clause-closed : goal.returns-clause-closed
returns-clause-closed c = closed_changes_nothing
