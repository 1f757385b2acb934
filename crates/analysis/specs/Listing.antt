-- How far a listing of minimal sets has come. Assumes nothing.
use Rattle.std.specs.Prelude.{ℕ, ◌-◌, ◌^◌, List, [], ◌∷◌, Some, None, Option}
use Rattle.std.specs.List.{filter}
use Rattle.structure.specs.Meanings.{Meaning}
use Rattle.analysis.specs.declared.listing.Listing.{Listing}
use Rattle.analysis.specs.declared.listing_of.ListingOf.{ListingOf}
use Rattle.analysis.specs.Minimal.{minimal, rising}

-- the minimal sets still to come
abbrev pub ahead : Listing → Meaning → List ℕ
ahead l m = filter (minimal l.role m) (rising l.next (2 ^ m.order - l.next))

-- of the structure that is listed
abbrev pub ahead_of : {S : Type 0} → (S → Meaning) → ListingOf S → List ℕ
ahead_of meaning s = ahead s.listing (meaning s.structure.now)

abbrev pub first : List ℕ → Option ℕ
first [] = None
first (x ∷ xs) = Some x

abbrev pub others : List ℕ → List ℕ
others [] = []
others (x ∷ xs) = xs
