-- What a search among the numbers to come says of the minimal sets to come. Assumes nothing.
use Rattle.std.proofs.Common.{◌≡◌, ℕ, ◌+◌, ◌%◌, ◌^◌, ◌<◌, ◌≤◌, Bool, true, false, [], ◌∷◌, Some, None, Option, sym, ap, ◌∙◌, mod-eq_of_lt, arith}
use Rattle.std.specs.List.{filter}
use Rattle.std.specs.Prelude.{MatchOption}
use Rattle.analysis.proofs.Rising.{up_from, keep_up_first, keep_up_none}

module _ (test : ℕ → Bool) (n k : ℕ) where
  -- what a search from k to `end` answers, where states are asked below 2 ^ n
  abbrev pub Searched : ℕ → Option ℕ → Type 0
  Searched end r =
      MatchOption r ((j : ℕ) → k ≤ j → j < end → test (j % 2 ^ n) ≡ false)
      (λ i. (k ≤ i) × (i < end) × (test (i % 2 ^ n) ≡ true) × ((j : ℕ) → k ≤ j → j < i → test (j % 2 ^ n) ≡ false))

  abbrev pub Found : Option ℕ → Type 0
  Found r =
      MatchOption r (filter test (up_from (2 ^ n) k) ≡ []) (λ i. (i < 2 ^ n) × (filter test (up_from (2 ^ n) k) ≡ i ∷ filter test (up_from (2 ^ n) (i + 1))))

  asked : (j : ℕ) (b : Bool) → j < 2 ^ n → test (j % 2 ^ n) ≡ b → test j ≡ b
  asked j b lt e = sym (ap test (mod-eq_of_lt lt)) ∙ e

  pub found : (end : ℕ) (r : Option ℕ) → end ≡ 2 ^ n → Searched end r → Found r
  found end None e none = keep_up_none test (2 ^ n) k (λ j low high. asked j false high (none j low (omega arith)))
  found end (Some i) e here =
      let below : i < 2 ^ n = omega (arith, here.1) in (
        below,
        keep_up_first test (2 ^ n) k i here.0 below (asked i true below here.2)
            (λ j low high. asked j false (omega arith) (here.3 j low high)),
      )
