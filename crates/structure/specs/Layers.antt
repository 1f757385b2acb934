-- What a layer over other structures means. Assumes nothing.
use Rattle.std.specs.Prelude.{ℕ, ◌%◌, ◌^◌, max, Bool, not, ◌&&◌, ◌||◌}
use Rattle.structure.specs.declared.pair.Rule.{Rule}
use Rattle.structure.specs.declared.pair.Rule.TheVariants.{Both, Either}
use Rattle.structure.specs.Meanings.{Meaning}
use Rattle.structure.specs.States.{reversed, cleared}

-- works exactly where the one below fails with every part reversed
abbrev pub dual : Meaning → Meaning
dual m = record { order = m.order; works = λ s. not (m.works (reversed m.order s)) }

-- the parts of a set count as failed
abbrev pub hold : ℕ → Meaning → Meaning
hold set m = record { order = m.order; works = λ s. m.works (cleared set s) }

abbrev pub joined : Rule → Bool → Bool → Bool
joined Both a b = a && b
joined Either a b = a || b

-- both work, or either does; each is asked with the digits it has
abbrev pub pair : Rule → Meaning → Meaning → Meaning
pair rule a b = record { order = max a.order b.order; works = λ s. joined rule (a.works (s % 2 ^ a.order)) (b.works (s % 2 ^ b.order)) }
