-- The merge of a clone's logs.
use Rattle.trace_writer.specs.Cursors.{CursorView}
use Rattle.trace_writer.specs.declared.merge.AnyCursor.{AnyCursor}
use Rattle.trace_writer.specs.declared.merge.AnyCursor.TheVariants.{Small, Middle, Large}

-- what its cursor shows
abbrev pub cursor_in : AnyCursor → CursorView
cursor_in (Small c) = c
cursor_in (Middle c) = c
cursor_in (Large c) = c
