-- A row of values that is written one by one. Assumes nothing.
use Rattle.std.proofs.Common.{◌≡◌, ℕ, ◌+◌, ◌<◌, ◌≤◌, List, [], ◌∷◌, ◌++◌, length, get_or, take, Some, None, Ok, Err, codes, decimal, Option, Result, sym, refl, ap, ◌∙◌, append-nil, take_all}
use Rattle.std.specs.declared.fmt.Formatter.{Formatter}
use Rattle.std.specs.Fmt.{IsPlainFormatter, HasWritten, DisplaysOnOk, option_append}
use Rattle.std.proofs.Output.{then_text_assoc, writes_in_calls_nil, displays_on_IsOk_append, displays_on_ok_of_eq}
use Rattle.std.proofs.lemmas.List.{take_more}
use Rattle.std.specs.Prelude.{OnOk}
use Rattle.script.specs.declared.line.RowKind.{RowKind}
use Rattle.script.specs.Lines.{letter_of, row_text}
use Rattle.script.specs.Printing.{Prints}
use Rattle.script.specs.RowTexts.{row_numbers}
use Rattle.script.specs.Rows.{row}

none_then : (o : Option (List ℕ)) → option_append (Some []) o ≡ o
none_then None = refl
none_then (Some bs) = refl

then_none : (o : Option (List ℕ)) → option_append o (Some []) ≡ o
then_none None = refl
then_none (Some bs) = ap (λ (l : List ℕ). Some l) (append-nil bs)

module _ {X : Type 0} (shown : X → Option (List ℕ)) where
  row_append : (xs ys : List X) → row shown (xs ++ ys) ≡ option_append (row shown xs) (row shown ys)
  row_append [] ys = sym (none_then (row shown ys))
  row_append (x ∷ xs) ys =
      let space : Option (List ℕ) = Some (codes " ") in
      let rest : Option (List ℕ) = row shown xs in
      ap (λ o. option_append space (option_append (shown x) o)) (row_append xs ys)
      ∙ ap (option_append space) (sym (then_text_assoc (shown x) rest (row shown ys)))
      ∙ sym (then_text_assoc space (option_append (shown x) rest) (row shown ys))

  row_more : (xs : List X) (i : ℕ) (x : X) → i < length xs → x ≡ get_or xs i x → row shown (take (i + 1) xs) ≡ option_append (row shown (take i xs)) (option_append (Some (codes " ")) (shown x))
  row_more xs i x within read =
      let front : List X = take i xs in
      ap (row shown) (take_more xs i x within ∙ ap (λ y. front ++ (y ∷ [])) (sym read))
      ∙ row_append front (x ∷ [])
      ∙ ap (λ o. option_append (row shown front) (option_append (Some (codes " ")) o)) (then_none (shown x))

module _ {W : Type 0} (took : W → List ℕ → W → Type 0) where
  abbrev Written : Formatter W → Option (List ℕ) → Formatter W → Type 0
  Written f o g = DisplaysOnOk took f (Ok tt) o g

  -- nothing yet
  pub row_begun : (f : Formatter W) → IsPlainFormatter f → HasWritten took f [] f
  row_begun f plain = record { wrote = writes_in_calls_nil took _; plain = plain }

  module _ {X : Type 0} (shown : X → Option (List ℕ)) (f g h : Formatter W) (xs : List X) (i : ℕ) where
    -- one value more
    pub row_goes_on : (x : X) → i < length xs → x ≡ get_or xs i x → Written f (row shown (take i xs)) g → Written g (option_append (Some (codes " ")) (shown x)) h → Written f (row shown (take (i + 1) xs)) h
    row_goes_on x within read before turn =
        displays_on_ok_of_eq took f h (Ok tt) _ _ (sym (row_more shown xs i x within read))
        (displays_on_IsOk_append took f g h (Ok tt) (Ok tt) (row shown (take i xs)) _ (λ ok. ok) before turn)

    -- all of them, after a word
    pub row_done : (word : List ℕ) → length xs ≤ i → Written f (Some word) g → Written g (row shown (take i xs)) h → Written f (option_append (Some word) (row shown xs)) h
    row_done word all first rest =
        displays_on_ok_of_eq took f h (Ok tt) _ _ (ap (λ ys. option_append (Some word) (row shown ys)) (take_all i xs all))
        (displays_on_IsOk_append took f g h (Ok tt) (Ok tt) (Some word) (row shown (take i xs)) (λ ok. ok) first rest)

-- a row of numbers that an output took is one line more
pub row_printed : {O E : Type 0} (printed : O → List ℕ → O → Type 0) (before after : O) (kind : RowKind) (ns : List ℕ) (r : Result (Unit {0}) E) → OnOk r ((t : List ℕ) → option_append (Some (letter_of kind)) (row (λ n. Some (decimal n)) ns) ≡ Some t → printed before t after) → OnOk r (Prints printed before (row_text kind ns ∷ []) after)
row_printed printed before after kind ns (Ok done) told = (after, told (row_text kind ns) (row_numbers kind ns), refl)
row_printed printed before after kind ns (Err why) told = tt
