-- Counts of a station as a word: the kind in the first bits, then each number in bits of its own.
use Rattle.std.specs.Prelude.{◌≡◌, ℕ, zero, suc, ◌+◌, ◌*◌, ◌/◌, ◌%◌, ◌^◌, ◌<◌}
use Rattle.sim_base.specs.declared.entry.Line.{Line}
use Rattle.sim_base.specs.declared.entry.Line.TheVariants.{Source, Server, Passed, Sink}
use Rattle.msg_heap.specs.declared.line.TheConstants.{STAY_SUMS}

-- a source's or a delay's number that fits: 61 bits
abbrev pub FitsOne : ℕ → Type 0
FitsOne n = n < 2305843009213693952

-- a server's numbers that fit: 5, 13, 20 and 20 bits
pub record FitsServer (b w d l : ℕ) : Type 0 where
  pub busy : b < 32
  pub wait : w < 8192
  pub done : d < 1048576
  pub lost : l < 1048576

-- a sink's numbers that fit: 17 and 46 bits
pub record FitsSink (g s : ℕ) : Type 0 where
  pub got : g < 131072
  pub stay : s < STAY_SUMS

-- counts that fit
abbrev pub FitsLine : Line → Type 0
FitsLine (Source sent) = FitsOne sent
FitsLine (Server busy wait done lost) = FitsServer busy wait done lost
FitsLine (Passed passed) = FitsOne passed
FitsLine (Sink got stay) = FitsSink got stay

-- a server's counts as a word
unfoldable pub server_word : ℕ → ℕ → ℕ → ℕ → ℕ
server_word busy wait done lost = (((1 * 256 + busy) * 8192 + wait) * 1048576 + done) * 1048576 + lost

-- the count of a delay or a router as a word
unfoldable pub passed_word : ℕ → ℕ
passed_word passed = 2 * 2305843009213693952 + passed

-- a sink's counts as a word
unfoldable pub sink_word : ℕ → ℕ → ℕ
sink_word got stay = (131072 + got) * STAY_SUMS + stay

-- counts as a word
abbrev pub packed_line : Line → ℕ
packed_line (Source sent) = sent
packed_line (Server busy wait done lost) = server_word busy wait done lost
packed_line (Passed passed) = passed_word passed
packed_line (Sink got stay) = sink_word got stay

-- the counts in a word, by its first three bits
abbrev pub counts_by : ℕ → ℕ → Line
counts_by zero w = Source w
counts_by (suc zero) w = Server (w / 2 ^ 53 % 2 ^ 5) (w / 2 ^ 40 % 2 ^ 13) (w / 2 ^ 20 % 2 ^ 20) (w % 2 ^ 20)
counts_by (suc (suc zero)) w = Passed (w % 2 ^ 61)
counts_by (suc (suc (suc zero))) w = Passed (w % 2 ^ 61)
counts_by (suc (suc (suc (suc n)))) w = Sink (w / 2 ^ 46 % 2 ^ 17) (w % 2 ^ 46)

-- the counts in a word
unfoldable pub line_of : ℕ → Line
line_of w = counts_by (w / 2 ^ 61) w

-- a word that is that of its counts
abbrev pub IsLine : ℕ → Type 0
IsLine w = packed_line (line_of w) ≡ w
