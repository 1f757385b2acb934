use Rattle.std.proofs.Common.{◌≡◌, ◌-◌, ◌≤◌, length, take}
use Rattle.std.specs.Io.KnownBytes.{Consumes}
use Rattle.script.proofs.console.read_into.Given as goal

abbrev pub invariant-loop-filled : goal.invariant-loop-filled
invariant-loop-filled g l =
    (length l.input ≡ length l.initial.input) × (l.filled ≤ length l.input) × Consumes (g.R.Read.remaining l.initial.source) (g.R.Read.remaining l.source) (take l.filled l.input)

abbrev pub decreases-loop-filled : goal.decreases-loop-filled
decreases-loop-filled g l = length l.initial.input - l.filled
