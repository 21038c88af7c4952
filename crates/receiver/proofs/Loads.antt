-- How many values a word has. Assumes nothing.
use Rattle.std.proofs.Common.{◌≡◌, ℕ, ◌+◌, ◌-◌, ◌^◌, ◌≤◌, List, map, length, replicate, ◌∙◌, ap₂, arith}
use lib.ListN.{length-map}
use Rattle.std.proofs.lemmas.List.{length-append, length-replicate}
use Rattle.soft.specs.Kind.{Kind}
use Rattle.receiver.specs.Model.{value_of, values_of}

module _ {S : Type 0} (kind : Kind S) where
  pub length_values : (n : ℕ) (bytes : List ℕ) → length bytes ≤ 2 ^ n → length (values_of kind n bytes) ≡ 2 ^ n
  length_values n bytes fits =
      length-append (map (λ b. value_of kind (kind.read b)) bytes) (replicate (2 ^ n - length bytes) kind.fill)
      ∙ ap₂ ◌+◌ (length-map bytes (λ b. value_of kind (kind.read b))) (length-replicate (2 ^ n - length bytes) kind.fill) ∙ omega arith
