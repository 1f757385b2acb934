-- States and sets of parts: numbers whose binary digit i, worth 2 ^ i, stands for part i. Assumes nothing.
use Rattle.std.specs.Prelude.{ℕ, zero, suc, ◌+◌, ◌-◌, ◌/◌, ◌%◌, ◌^◌, ◌≤◌, bit_and}

-- 1 where part i works in the state s, or is in the set s; else 0
unfoldable pub digit : ℕ → ℕ → ℕ
digit s i = s / 2 ^ i % 2

-- every part of x is in y
abbrev pub Within : ℕ → ℕ → Type 0
Within x y = (i : ℕ) → digit x i ≤ digit y i

-- of n parts, the state in which exactly those work that fail in s: all parts but those of s
unfoldable pub reversed : ℕ → ℕ → ℕ
reversed n s = 2 ^ n - 1 - s

-- the state s with the parts of a set counted as failed
unfoldable pub cleared : ℕ → ℕ → ℕ
cleared set s = s - bit_and s set

-- how many of the parts 0 to n - 1 work in s
unfoldable pub size : ℕ → ℕ → ℕ
size zero s = 0
size (suc n) s = size n s + digit s n
