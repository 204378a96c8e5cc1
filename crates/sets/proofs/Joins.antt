-- Joining sets and taking a token out, for sets of any width.
use Prim.Native.Nat.{ℕ}
use mathlib.Core.Path.{◌≡◌, refl}
use mathlib.Core.Logic.{◌⊎◌, inl, inr, ⊎_elim}
use mathlib.Core.Bool.{true, false}
use Rattle.rules.specs.Tokens.{Has, has, join, without}
use Rattle.sets.proofs.Laws.{has_true, has_false, has_none, has_join, has_without, same_tokens}

pub none_lacks : (t : ℕ) → has 0 t ≡ false
none_lacks t = (has_false 0 t).1 (has_none t)

pub without_lacks : (s t : ℕ) → has (without s t) t ≡ false
without_lacks s t = (has_false (without s t) t).1 (λ h. ((has_without s t t).0 h).1 refl)

pub join_none : (s : ℕ) → join 0 s ≡ s
join_none s = same_tokens (join 0 s) s (λ t. (
  (λ h. ⊎_elim (λ z. absurd (has_none t z)) (λ g. g) ((has_join 0 s t).0 h)),
  (λ h. (has_join 0 s t).1 (inr h)),
))

module _ (a b c : ℕ) where
  pub join_assoc : join (join a b) c ≡ join a (join b c)
  join_assoc = same_tokens (join (join a b) c) (join a (join b c)) (λ t. (
    (λ h. ⊎_elim (λ g. ⊎_elim (λ x. left t x) (λ y. right t (inl y)) ((has_join a b t).0 g)) (λ z. right t (inr z)) ((has_join (join a b) c t).0 h)),
    (λ h. ⊎_elim (λ x. begun t (inl x)) (λ g. ⊎_elim (λ y. begun t (inr y)) (λ z. (has_join (join a b) c t).1 (inr z)) ((has_join b c t).0 g)) ((has_join a (join b c) t).0 h)),
  ))
    where
      left : (t : ℕ) → Has a t → Has (join a (join b c)) t
      left t x = (has_join a (join b c) t).1 (inl x)

      right : (t : ℕ) → Has b t ⊎ Has c t → Has (join a (join b c)) t
      right t y = (has_join a (join b c) t).1 (inr ((has_join b c t).1 y))

      begun : (t : ℕ) → Has a t ⊎ Has b t → Has (join (join a b) c) t
      begun t x = (has_join (join a b) c t).1 (inl ((has_join a b t).1 x))

module _ (a b u : ℕ) where
  pub join_lacks : has (join a b) u ≡ false → has b u ≡ false
  join_lacks e = (has_false b u).1 (λ h. (has_false (join a b) u).0 e ((has_join a b u).1 (inr h)))

  module _ (lacks : has a u ≡ false) where
    pub join_had : has (join a b) u ≡ true → has b u ≡ true
    join_had e = (has_true b u).1 (⊎_elim (λ h. absurd ((has_false a u).0 lacks h)) (λ h. h) ((has_join a b u).0 ((has_true (join a b) u).0 e)))

    pub without_join : without (join a b) u ≡ join a (without b u)
    without_join = same_tokens (without (join a b) u) (join a (without b u)) (λ t. (to t, from t))
      where
        to : (t : ℕ) → Has (without (join a b) u) t → Has (join a (without b u)) t
        to t h =
            let (g, ne) = (has_without (join a b) u t).0 h in
            (has_join a (without b u) t).1 (⊎_elim inl (λ y. inr ((has_without b u t).1 (y, ne))) ((has_join a b t).0 g))

        differs : (t : ℕ) → Has a t → t ≡ u → ⊥
        differs t h e = (has_false a u).0 lacks (rw e at h)

        from : (t : ℕ) → Has (join a (without b u)) t → Has (without (join a b) u) t
        from t h = ⊎_elim
            (λ x. (has_without (join a b) u t).1 ((has_join a b t).1 (inl x), differs t x))
            (λ y. let (g, ne) = (has_without b u t).0 y in (has_without (join a b) u t).1 ((has_join a b t).1 (inr g), ne))
            ((has_join a (without b u) t).0 h)

pub without_none : (s t : ℕ) → has s t ≡ false → without s t ≡ s
unfolding without
without_none s t e = rw e
