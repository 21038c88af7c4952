-- Counting the informed positions and laying a message on them, one position after the other. Assumes nothing.
use Rattle.std.proofs.Common.{◌≡◌, ℕ, suc, ◌+◌, ◌<◌, Bool, true, false, cond, eqb, List, [], ◌∷◌, ◌++◌, length, get_or, take, drop, set, refl, ap, ◌∙◌, ap₂, append_assoc, arith}
use Rattle.std.proofs.lemmas.List.{at_drop_more, take_more_set, drop-drop, get_or-drop}
use Rattle.std.proofs.lemmas.Bool.{eq-eqb, ne_eqb}
use Rattle.code.specs.Encode.{informed_count, laid, informed}

module _ (marks : List ℕ) (p : ℕ) (within : p < length marks) where
  pub count_informed : get_or marks p 0 ≡ 1 → informed_count (drop p marks) ≡ suc (informed_count (drop (p + 1) marks))
  count_informed one =
      at_drop_more informed_count marks p 0 within
      ∙ ap (λ b. cond b (suc (informed_count (drop (p + 1) marks))) (informed_count (drop (p + 1) marks))) (eq-eqb (get_or marks p 0) 1 one)

  pub count_frozen : (get_or marks p 0 ≡ 1 → ⊥) → informed_count (drop p marks) ≡ informed_count (drop (p + 1) marks)
  count_frozen other =
      at_drop_more informed_count marks p 0 within
      ∙ ap (λ b. cond b (suc (informed_count (drop (p + 1) marks))) (informed_count (drop (p + 1) marks))) (ne_eqb (get_or marks p 0) 1 other)

  -- what is laid from p on, where p is informed and the next bit of the message is at k
  pub laid_informed : (message : List ℕ) (k : ℕ) → get_or marks p 0 ≡ 1 →
      laid (drop p marks) (drop k message) ≡ get_or message k 0 ∷ laid (drop (p + 1) marks) (drop (k + 1) message)
  laid_informed message k one =
      let zeroth : get_or (drop k message) 0 0 ≡ get_or message k 0 = get_or-drop k message 0 0 ∙ ap (λ j. get_or message j 0) (let h : k + 0 ≡ k = omega arith in h) in
      at_drop_more (λ m. laid m (drop k message)) marks p 0 within
      ∙ ap (λ b. cond b (get_or (drop k message) 0 0 ∷ laid (drop (p + 1) marks) (drop 1 (drop k message))) (0 ∷ laid (drop (p + 1) marks) (drop k message))) (eq-eqb (get_or marks p 0) 1 one)
      ∙ ap₂ (λ b m. b ∷ laid (drop (p + 1) marks) m) zeroth (drop-drop 1 k message)

  pub laid_frozen : (message : List ℕ) (k : ℕ) → (get_or marks p 0 ≡ 1 → ⊥) →
      laid (drop p marks) (drop k message) ≡ 0 ∷ laid (drop (p + 1) marks) (drop k message)
  laid_frozen message k other =
      at_drop_more (λ m. laid m (drop k message)) marks p 0 within
      ∙ ap (λ b. cond b (get_or (drop k message) 0 0 ∷ laid (drop (p + 1) marks) (drop 1 (drop k message))) (0 ∷ laid (drop (p + 1) marks) (drop k message))) (ne_eqb (get_or marks p 0) 1 other)

-- writing the next bit b of a row whose rest is known
pub laid_more : (word whole rest : List ℕ) (p b : ℕ) → p < length word → take p word ++ (b ∷ rest) ≡ whole → take (p + 1) (set word p b) ++ rest ≡ whole
laid_more word whole rest p b within before =
    ap (λ front. front ++ rest) (take_more_set word p b within) ∙ append_assoc (take p word) (b ∷ []) rest ∙ before

pub length_laid : (marks message : List ℕ) → length (laid marks message) ≡ length marks
length_laid [] message = refl
length_laid (m ∷ marks) message =
    elim (eqb m 1) as (λ b. length (cond b (get_or message 0 0 ∷ laid marks (drop 1 message)) (0 ∷ laid marks message)) ≡ suc (length marks)) [
      | true ↦ ap suc (length_laid marks (drop 1 message))
      | false ↦ ap suc (length_laid marks message)
    ]

-- what was laid is read back at the informed positions
pub informed_laid : (marks message : List ℕ) → length message ≡ informed_count marks → informed marks (laid marks message) ≡ message
informed_laid [] [] h = refl
informed_laid [] (b ∷ message) h = let x : ⊥ = omega arith in absurd x
informed_laid (m ∷ marks) message h = go (eqb m 1) message h (λ rest k. informed_laid marks rest k)
  where
    go : (b : Bool) (message : List ℕ) → length message ≡ cond b (suc (informed_count marks)) (informed_count marks) →
        ((rest : List ℕ) → length rest ≡ informed_count marks → informed marks (laid marks rest) ≡ rest) →
        cond b (get_or (cond b (get_or message 0 0 ∷ laid marks (drop 1 message)) (0 ∷ laid marks message)) 0 0 ∷ informed marks (drop 1 (cond b (get_or message 0 0 ∷ laid marks (drop 1 message)) (0 ∷ laid marks message)))) (informed marks (drop 1 (cond b (get_or message 0 0 ∷ laid marks (drop 1 message)) (0 ∷ laid marks message)))) ≡ message
    go true [] h later = let x : ⊥ = omega arith in absurd x
    go true (b ∷ message) h later = ap (λ r. b ∷ r) (later message (let k : length message ≡ informed_count marks = omega arith in k))
    go false message h later = later message h

-- gathering from p on, where the next bit of the message goes to k
module _ (marks bits : List ℕ) (p : ℕ) (within : p < length marks) (long : length bits ≡ length marks) where
  pub informed_here : get_or marks p 0 ≡ 1 → informed (drop p marks) (drop p bits) ≡ get_or bits p 0 ∷ informed (drop (p + 1) marks) (drop (p + 1) bits)
  informed_here one =
      let zeroth : get_or (drop p bits) 0 0 ≡ get_or bits p 0 = get_or-drop p bits 0 0 ∙ ap (λ j. get_or bits j 0) (let h : p + 0 ≡ p = omega arith in h) in
      at_drop_more (λ m. informed m (drop p bits)) marks p 0 within
      ∙ ap (λ b. cond b (get_or (drop p bits) 0 0 ∷ informed (drop (p + 1) marks) (drop 1 (drop p bits))) (informed (drop (p + 1) marks) (drop 1 (drop p bits)))) (eq-eqb (get_or marks p 0) 1 one)
      ∙ ap₂ (λ b r. b ∷ informed (drop (p + 1) marks) r) zeroth (drop-drop 1 p bits)

  pub informed_not : (get_or marks p 0 ≡ 1 → ⊥) → informed (drop p marks) (drop p bits) ≡ informed (drop (p + 1) marks) (drop (p + 1) bits)
  informed_not other =
      at_drop_more (λ m. informed m (drop p bits)) marks p 0 within
      ∙ ap (λ b. cond b (get_or (drop p bits) 0 0 ∷ informed (drop (p + 1) marks) (drop 1 (drop p bits))) (informed (drop (p + 1) marks) (drop 1 (drop p bits)))) (ne_eqb (get_or marks p 0) 1 other)
      ∙ ap (informed (drop (p + 1) marks)) (drop-drop 1 p bits)
