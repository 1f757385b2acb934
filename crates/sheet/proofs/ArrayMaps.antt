-- What an array's map makes of it, and what is made place by place of another array, where the closure gives a function's value at each element. Assumes nothing.
use Rattle.std.proofs.Common.{◌≡◌, ℕ, ◌<◌, List, length, map, get_or, sym, ◌∙◌, arith}
use Rattle.std.specs.Array.{IsFromFnResult, IsMapOf}
use Rattle.std.specs.Fn.{Mut, Called}
use Rattle.std.proofs.lemmas.List.{ext_get_or, get_or-map, length-map}
use Rattle.std.proofs.lemmas.List.FromFn.{fill_by_all}
use Rattle.weight.proofs.Made.{from_fn_map}

pub map_same : {F A B : Type 0} (g : Mut F (A × Unit {0}) B) (h : A → B) (f : F) (xs : List A) (ys : List B) (n : ℕ) (d : A)
    → ((p : F) (x : A) (y : B) (q : F) → Called g p (x, tt) y q → y ≡ h x)
    → length xs ≡ n → IsMapOf g f xs ys n → ys ≡ map h xs
map_same g h f xs ys n d same long of =
    ext_get_or (h d) ys (map h xs) (of.long ∙ sym long ∙ sym (length-map xs h))
    (λ i lt. let here : i < n = omega (arith, of.long, lt) in
    let called = of.at i d (h d) here in
    same called.0 _ _ called.1 called.2 ∙ sym (get_or-map h xs i d (h d) (omega (arith, long, here))))

pub made_same : {F A B : Type 0} (g : Mut F (ℕ × Unit {0}) B) (h : A → B) (f : F) (xs : List A) (ys : List B) (n : ℕ) (d : A)
    → ((i : ℕ) (y : B) (q : F) → i < n → Called g f (i, tt) y q → (q ≡ f) × (y ≡ h (get_or xs i d)))
    → length xs ≡ n → IsFromFnResult g f ys n → ys ≡ map h xs
made_same g h f xs ys n d once long made =
    from_fn_map g (λ i. h (get_or xs i d)) f n once ys (h d) made
    ∙ sym (fill_by_all (λ i. h (get_or xs i d)) (map h xs) n (h d) (length-map xs h ∙ long) (λ k lt. get_or-map h xs k d (h d) (omega (arith, long, lt))))
