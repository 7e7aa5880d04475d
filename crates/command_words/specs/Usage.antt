-- The usage line.
use Rattle.std.specs.Prelude.{ℕ, List, codes}

-- each mode with its positionals and its options
abbrev pub usage_line : List ℕ
usage_line = codes "usage: cloner run MODEL SCRIPT [--workers N], solo MODEL SCRIPT --clone NAME, live MODEL SCRIPT [--workers N], gen NUMBER [--workers N], watch MODEL SCRIPT WATCHES [--workers N], stats MODEL SCRIPT [--workers N], save MODEL SCRIPT --clone NAME --until T, resume MODEL SNAPSHOT, links MODEL SCRIPT [--workers N]\n"
