-- The law over runs: each call is answered lawfully, and what is in force agrees with what was seen. Assumes nothing.
use Rattle.std.proofs.Common.{◌≡◌, ℕ, zero, suc, ◌+◌, ◌-◌, ◌*◌, ◌%◌, ◌^◌, ◌<◌, ◌≤◌, Bool, true, false, cond, not, leb, List, [], ◌∷◌, ◌++◌, map, length, get_or, replicate, is_some, Some, None, Option, sym, refl, ap, ◌∙◌, subst₂, mul-le-mul_right, suc-mul, arith, pow_mono}
use Rattle.std.specs.Option.{option_map}
use Rattle.std.proofs.lemmas.List.{length-append, length-replicate, length-map}
use Rattle.std.proofs.lemmas.Bool.{eqb-true, leb-true, and_parts}
use Rattle.soft.specs.declared.whole.Whole.{Whole}
use Rattle.soft.specs.Kind.{Kind, Laws}
use Rattle.soft.specs.Whole.{whole, stop}
use Rattle.code.specs.Spans.{lowest_no, Means}
use Rattle.cancellation.specs.Cancel.{cancel}
use Rattle.cancellation.specs.Cost.{total}
use Rattle.receiver.specs.declared.faults.ReceiverFault.{ReceiverFault}
use Rattle.receiver.specs.declared.faults.ReceiverFault.TheVariants.{Length, Memory, WordInHand, NoWord, Unfinished, Byte}
use Rattle.receiver.specs.Work.{Caps, Span, Root, Took, Place, at, first, finished, walked, made_of}
use Rattle.receiver.specs.Model.{Hand, Model, ten_ten, value_of, values_of, root_of, is_finished, caps_fault, capped, full_length, short_length, word_fault_by, word_fault, worded, right_buffers, message_in, ended}
use Rattle.receiver.specs.Calls.{Call, remap, set_caps, word, short_word, advance, take, drop_word, Answer, refused, done, took, Outcome, outcome, called, answers_to}
use Rattle.receiver.specs.Law.{Held, Seen, seen_after, newly, longer, caps_at, enough, Adding, Costs, unfinished, unroomy, unfit, plain, Lawful, LawFrom, Mapped, AllMapped, LawOverRuns}
use Rattle.receiver.proofs.Standing.{never}
use Rattle.receiver.proofs.Counts.{Stands, stands_start, stands_took, unfinished_below}
use Rattle.receiver.proofs.CheapSpans.{begun_deep, settled_cheap}
use Rattle.receiver.proofs.Standing.{standing_walk, made_most, made_all, was_open, open_before}

-- a word in hand with the place at which the work on it stands, or none
data Stage (S : Type 0) : Type 0 where
  idle : Stage S
  working : Held S → Place → Stage S

abbrev hand_of : {S : Type 0} → ℕ → List ℕ → Stage S → Option (Hand S)
hand_of n marks idle = None
hand_of n marks (working held place) = Some (record { root = root_of n marks held.values; place = place; steps = length held.caps })

abbrev held_of : {S : Type 0} → Stage S → Option (Held S)
held_of idle = None
held_of (working held place) = Some held

-- all that is in force
record State (S : Type 0) : Type 0 where
  n : ℕ
  marks : List ℕ
  caps : Caps
  stage : Stage S

abbrev state : {S : Type 0} → ℕ → List ℕ → Caps → Stage S → State S
state n marks caps stage = record { n = n; marks = marks; caps = caps; stage = stage }

abbrev model_of : {S : Type 0} → State S → Model S
model_of s = record { n = s.n; marks = s.marks; caps = s.caps; hand = hand_of s.n s.marks s.stage }

abbrev seen_of : {S : Type 0} → State S → Seen S
seen_of s = record { n = s.n; marks = s.marks; caps = s.caps; hand = held_of s.stage }

-- a word in hand stands where the steps so far have led, and while a step remains these are all that were allowed
record Holds {S : Type 0} (kind : Kind S) (n : ℕ) (marks : List ℕ) (held : Held S) (place : Place) : Type 0 where
  long : length held.values ≡ 2 ^ n
  small : (adding : Adding kind) → total kind held.values ≤ adding.limit
  stands : Stands kind (root_of n marks held.values) (caps_at held.caps) place (length held.caps)
  spent : is_finished place ≡ false → held.allowance ≡ length held.caps

abbrev Fits : {S : Type 0} → Kind S → ℕ → List ℕ → Stage S → Type 0
Fits kind n marks idle = Unit {0}
Fits kind n marks (working held place) = Holds kind n marks held place

-- what a call does to a state: it is answered lawfully, and what is in force agrees with what is seen
record Goes {S : Type 0} (kind : Kind S) (call : Call) (s : State S) (out : Outcome S) : Type 0 where
  lawful : Lawful kind (seen_of s) call out.answer
  next : State S
  model : out.after ≡ model_of next
  seen : seen_after kind (record { call = call; answer = out.answer }) (seen_of s) ≡ seen_of next
  means : Means next.n next.marks
  fits : Fits kind next.n next.marks next.stage

-- the caps of the steps after an advance
longer_length : (caps : List Caps) (k : ℕ) (c : Caps) → length (caps ++ replicate k c) ≡ length caps + k
longer_length caps k c = length-append caps (replicate k c) ∙ ap (λ j. length caps + j) (length-replicate k c)

never_some : {A X : Type 0} {x : X} → Some x ≡ None → A
never_some e = let z : ◌≡◌ {A = ℕ} 0 1 = cc in absurd (omega arith)

-- an accepted word is of the right length
word_fits : {S : Type 0} (kind : Kind S) (m : Model S) (right : ℕ → ℕ → Bool) (roomy : Bool) (bytes : List ℕ) → word_fault kind m right roomy bytes ≡ None →
    (is_some m.hand ≡ false) × (right m.n (length bytes) ≡ true)
unfolding word_fault
word_fits kind m right roomy bytes none = go (is_some m.hand) (right m.n (length bytes)) none
  where
    rest : Option ReceiverFault
    rest = cond (not roomy) (Some Memory) (option_map Byte (lowest_no (λ i. is_some (kind.read (get_or bytes i 0))) 0 (length bytes)))

    go : (a b : Bool) → cond a (Some WordInHand) (cond (not b) (Some Length) rest) ≡ None → (a ≡ false) × (b ≡ true)
    go true b h = never_some h
    go false true h = (refl, refl)
    go false false h = never_some h

module _ {S : Type 0} (kind : Kind S) (laws : Laws kind) where
  values_long : (n : ℕ) (bytes : List ℕ) → length bytes ≤ 2 ^ n → length (values_of kind n bytes) ≡ 2 ^ n
  values_long n bytes le =
      length-append (map (λ b. value_of kind (kind.read b)) bytes) (replicate (2 ^ n - length bytes) kind.fill)
      ∙ omega (arith, length-map bytes (λ b. value_of kind (kind.read b)), length-replicate (2 ^ n - length bytes) kind.fill)

  module _ (adding : Adding kind) where
    value_small : (byte : ℕ) → kind.size (value_of kind (kind.read byte)) * 1024 ≤ adding.limit
    value_small byte = go (kind.read byte) refl
      where
        go : (o : Option S) → kind.read byte ≡ o → kind.size (value_of kind o) * 1024 ≤ adding.limit
        go None e = omega (arith, laws.fill_size)
        go (Some v) e = adding.small byte v e

    read_total : (bytes : List ℕ) (rest : List S) → total kind rest ≡ 0 → total kind (map (λ b. value_of kind (kind.read b)) bytes ++ rest) * 1024 ≤ length bytes * adding.limit
    read_total [] rest none = omega arith
    read_total (b ∷ bytes) rest none = omega (arith, value_small b, read_total bytes rest none, suc-mul (length bytes) adding.limit)

    fill_total : (k : ℕ) → total kind (replicate k kind.fill) ≡ 0
    fill_total zero = refl
    fill_total (suc k) = omega (arith, laws.fill_size, fill_total k)

    values_small : (n : ℕ) (bytes : List ℕ) → n ≤ 10 → length bytes ≤ 2 ^ n → total kind (values_of kind n bytes) ≤ adding.limit
    values_small n bytes high le =
        let all = read_total bytes (replicate (2 ^ n - length bytes) kind.fill) (fill_total (2 ^ n - length bytes)) in
        let p = pow_mono {i = n} {j = 10} high in
        let bound : length bytes * adding.limit ≤ 1024 * adding.limit = mul-le-mul_right adding.limit (let h : length bytes ≤ 1024 = omega arith in h) in
        omega arith

  -- a refusal changes nothing
  stays : (call : Call) (s : State S) (fault : ReceiverFault) → Means s.n s.marks → Fits kind s.n s.marks s.stage → Lawful kind (seen_of s) call (refused fault) →
      Goes kind call s (record { answer = refused fault; after = model_of s })
  stays call s fault means fits lawful = record { lawful = lawful; next = s; model = refl; seen = refl; means = means; fits = fits }

  module _ (n : ℕ) (marks : List ℕ) (caps : Caps) (means : Means n marks) where
    goes_remap : (k : ℕ) (list : List ℕ) → Means k list → (stage : Stage S) → Fits kind n marks stage →
        Goes kind (remap k list) (state n marks caps stage) (called kind (remap k list) (model_of (state n marks caps stage)))
    goes_remap k list good idle fits = record { lawful = refl; next = state k list caps idle; model = refl; seen = refl; means = good; fits = tt }
    goes_remap k list good (working held place) fits = stays (remap k list) (state n marks caps (working held place)) WordInHand means fits refl

    goes_caps : (a b : ℕ) (stage : Stage S) → Fits kind n marks stage →
        Goes kind (set_caps a b) (state n marks caps stage) (called kind (set_caps a b) (model_of (state n marks caps stage)))
    goes_caps a b stage fits = go (caps_fault a b) refl
      where
        s : State S
        s = state n marks caps stage

        go : (fault : Option ReceiverFault) → caps_fault a b ≡ fault → Goes kind (set_caps a b) s (outcome fault done (capped a b (model_of s)) (model_of s))
        go None e = record { lawful = ap plain (sym e); next = state n marks (record { first = a; second = b }) stage; model = refl; seen = refl; means = means; fits = fits }
        go (Some fault) e = stays (set_caps a b) s fault means fits (ap plain (sym e))

    -- a word newly in hand
    abbrev new_held : List ℕ → Held S
    new_held bytes = record { values = values_of kind n bytes; caps = []; allowance = 0 }

    fresh_fits : (bytes : List ℕ) → length bytes ≤ 2 ^ n → Holds kind n marks (new_held bytes) (at first [])
    fresh_fits bytes le = record {
      long = values_long n bytes le;
      small = λ adding. values_small adding n bytes means.high le;
      stands = stands_start kind (root_of n marks (values_of kind n bytes)) (caps_at []);
      spent = λ some. refl;
    }

    word_asks : (stage : Stage S) (right : ℕ → ℕ → Bool) (roomy : Bool) (bytes : List ℕ) →
        word_fault kind (model_of (state n marks caps stage)) right roomy bytes ≡ word_fault_by kind (is_some (held_of stage)) n right roomy bytes
    unfolding word_fault
    word_asks idle right roomy bytes = refl
    word_asks (working held place) right roomy bytes = refl

    -- a word or a short word, by its call and the lengths that it may have
    goes_word : (call : Call) (right : ℕ → ℕ → Bool) (roomy : Bool) (bytes : List ℕ) (stage : Stage S) → Fits kind n marks stage →
        ((answer : Answer) → answer ≡ plain (word_fault_by kind (is_some (held_of stage)) n right roomy bytes) → Lawful kind (seen_of (state n marks caps stage)) call answer) →
        seen_after kind (record { call = call; answer = done }) (seen_of (state n marks caps stage)) ≡ newly kind bytes (seen_of (state n marks caps stage)) →
        (right n (length bytes) ≡ true → length bytes ≤ 2 ^ n) →
        Goes kind call (state n marks caps stage)
        (outcome (word_fault kind (model_of (state n marks caps stage)) right roomy bytes) done (worded kind bytes (model_of (state n marks caps stage))) (model_of (state n marks caps stage)))
    goes_word call right roomy bytes stage fits lawful seen within = go (word_fault kind (model_of s) right roomy bytes) refl
      where
        s : State S
        s = state n marks caps stage

        go : (fault : Option ReceiverFault) → word_fault kind (model_of s) right roomy bytes ≡ fault → Goes kind call s (outcome fault done (worded kind bytes (model_of s)) (model_of s))
        go None e = record {
          lawful = lawful done (ap plain (sym e ∙ word_asks stage right roomy bytes));
          next = state n marks caps (working (new_held bytes) (at first []));
          model = refl;
          seen = seen;
          means = means;
          fits = fresh_fits bytes (within (word_fits kind (model_of s) right roomy bytes e).1);
        }
        go (Some fault) e = stays call s fault means fits (lawful (refused fault) (ap plain (sym e ∙ word_asks stage right roomy bytes)))

    goes_drop : (stage : Stage S) → Fits kind n marks stage → Goes kind drop_word (state n marks caps stage) (called kind drop_word (model_of (state n marks caps stage)))
    goes_drop idle fits = stays drop_word (state n marks caps idle) NoWord means fits refl
    goes_drop (working held place) fits = record { lawful = refl; next = state n marks caps idle; model = refl; seen = refl; means = means; fits = tt }

    module _ (held : Held S) (long : length held.values ≡ 2 ^ n) (small : (adding : Adding kind) → total kind held.values ≤ adding.limit) where
      abbrev root : Span S
      root = root_of n marks held.values

      is_root : Root n root
      is_root = record { e = refl; start = refl; full = record { marks = means.long; values = long } }

      costs_so : (steps : List Caps) → Costs kind root steps
      costs_so steps path i begun below closed =
          settled_cheap kind laws n root is_root means small (caps_at steps i) path (begun_deep kind laws n root is_root means small (caps_at steps) begun) closed

      -- the allowances are not enough while a step remains
      still_below : (place : Place) (steps : ℕ → Caps) (k allowance : ℕ) → Stands kind root steps place k → (is_finished place ≡ false → allowance ≡ k) → is_finished place ≡ false → allowance < enough n
      still_below (at next path) steps k allowance stands spent some =
          let same = spent refl in
          let below = unfinished_below kind root steps stands in
          omega arith
      still_below finished steps k allowance stands spent some = never some

      ends_so : (place : Place) (steps : ℕ → Caps) (k allowance : ℕ) → Stands kind root steps place k → (is_finished place ≡ false → allowance ≡ k) → enough n ≤ allowance → is_finished place ≡ true
      ends_so (at next path) steps k allowance stands spent reached =
          let below = still_below (at next path) steps k allowance stands spent refl in
          absurd (omega arith)
      ends_so finished steps k allowance stands spent reached = refl

      count_so : (place : Place) (steps : ℕ → Caps) (k : ℕ) → Stands kind root steps place k → is_finished place ≡ true → Took kind steps 0 root k
      count_so (at next path) steps k stands none = never (sym none)
      count_so finished steps k stands none = stands_took kind root steps stands

      remain_so : (place : Place) (steps : ℕ → Caps) (k : ℕ) → Stands kind root steps place k → is_finished place ≡ false → (t : ℕ) → Took kind steps 0 root t → k < t
      remain_so (at next path) steps k stands some t all = open_before kind steps root t all stands
      remain_so finished steps k stands some t all = never some

    goes_advance : (roomy : Bool) (b : ℕ) (stage : Stage S) → Fits kind n marks stage →
        Goes kind (advance roomy b) (state n marks caps stage) (called kind (advance roomy b) (model_of (state n marks caps stage)))
    goes_advance roomy b idle fits = stays (advance roomy b) (state n marks caps idle) NoWord means fits refl
    goes_advance false b (working held place) fits = stays (advance false b) (state n marks caps (working held place)) Memory means fits (refl, refl)
    goes_advance true b (working held place) fits =
        let root = root_of n marks held.values in
        let made = made_of kind root caps b place in
        let there = walked kind root caps b place in
        let after = longer caps b made held in
        let stands = standing_walk kind root caps b place held.caps fits.stands in
        let spent : is_finished there ≡ false → after.allowance ≡ length after.caps =
        λ some. omega (arith, fits.spent (was_open kind root caps b place some), made_all kind root caps b place some, longer_length held.caps made caps) in
        record {
          lawful = (
            refl,
            record {
              most = made_most kind root caps b place;
              all = made_all kind root caps b place;
              ends = ends_so held fits.long fits.small there (caps_at after.caps) (length after.caps) after.allowance stands spent;
              count = count_so held fits.long fits.small there (caps_at after.caps) (length after.caps) stands;
              remain = remain_so held fits.long fits.small there (caps_at after.caps) (length after.caps) stands;
              costs = costs_so held fits.long fits.small after.caps;
            },
          );
          next = state n marks caps (working after there);
          model = ap (λ k. record { n = n; marks = marks; caps = caps; hand = Some (record { root = root; place = there; steps = k }) }) (sym (longer_length held.caps made caps));
          seen = refl;
          means = means;
          fits = record { long = fits.long; small = fits.small; stands = stands; spent = spent };
        }

    goes_take : (roomy : Bool) (message room : ℕ) (stage : Stage S) → Fits kind n marks stage →
        Goes kind (take roomy message room) (state n marks caps stage) (called kind (take roomy message room) (model_of (state n marks caps stage)))
    goes_take roomy message room idle fits = stays (take roomy message room) (state n marks caps idle) NoWord means fits refl
    goes_take roomy message room (working held (at next path)) fits =
        stays (take roomy message room) (state n marks caps (working held (at next path))) Unfinished means fits
        (unfinished
        (still_below held fits.long fits.small (at next path) (caps_at held.caps) (length held.caps) held.allowance fits.stands fits.spent refl)
        (remain_so held fits.long fits.small (at next path) (caps_at held.caps) (length held.caps) fits.stands refl))
    goes_take false message room (working held finished) fits =
        stays (take false message room) (state n marks caps (working held finished)) Memory means fits
        (unroomy (stands_took kind (root_of n marks held.values) (caps_at held.caps) fits.stands) refl)
    goes_take true message room (working held finished) fits = go (right_buffers n marks message room) refl
      where
        s : State S
        s = state n marks caps (working held finished)

        bits : List ℕ
        bits = cancel kind n marks held.values

        count : Took kind (caps_at held.caps) 0 (root_of n marks held.values) (length held.caps)
        count = stands_took kind (root_of n marks held.values) (caps_at held.caps) fits.stands

        go : (right : Bool) → right_buffers n marks message room ≡ right →
            Goes kind (take true message room) s (outcome (cond right None (Some Length)) (took (length held.caps) (message_in n marks bits) bits) (ended (model_of s)) (model_of s))
        go true e = record {
          lawful = (refl, e, record { right = refl; beside = refl; sum = refl; count = count; costs = costs_so held fits.long fits.small held.caps });
          next = state n marks caps idle;
          model = refl;
          seen = refl;
          means = means;
          fits = tt;
        }
        go false e = stays (take true message room) s Length means fits (unfit count refl e)

  goes : (call : Call) → Mapped call → (s : State S) → Means s.n s.marks → Fits kind s.n s.marks s.stage → Goes kind call s (called kind call (model_of s))
  goes (remap k list) good s means fits = goes_remap s.n s.marks s.caps means k list good s.stage fits
  goes (set_caps a b) good s means fits = goes_caps s.n s.marks s.caps means a b s.stage fits
  goes (word roomy bytes) good s means fits =
      goes_word s.n s.marks s.caps means (word roomy bytes) full_length roomy bytes s.stage fits (λ answer same. same) refl
      (λ full. let h = eqb-true (length bytes) (2 ^ s.n) full in omega arith)
  goes (short_word roomy bytes) good s means fits =
      goes_word s.n s.marks s.caps means (short_word roomy bytes) short_length roomy bytes s.stage fits (λ answer same. same) refl
      (λ short. leb-true (length bytes) (2 ^ s.n) (and_parts (leb 1 (length bytes)) (leb (length bytes) (2 ^ s.n)) short).1)
  goes (advance roomy b) good s means fits = goes_advance s.n s.marks s.caps means roomy b s.stage fits
  goes (take roomy message room) good s means fits = goes_take s.n s.marks s.caps means roomy message room s.stage fits
  goes drop_word good s means fits = goes_drop s.n s.marks s.caps means s.stage fits

  law_from : (calls : List Call) → AllMapped calls → (s : State S) → Means s.n s.marks → Fits kind s.n s.marks s.stage →
      LawFrom kind (seen_of s) calls (answers_to kind calls (model_of s))
  unfolding LawFrom AllMapped answers_to
  law_from [] all s means fits = tt
  law_from (call ∷ calls) all s means fits =
      let here = goes call all.0 s means fits in (
        here.lawful,
        subst₂ (λ seen m. LawFrom kind seen calls (answers_to kind calls m)) (sym here.seen) (sym here.model) (law_from calls all.1 here.next here.means here.fits),
      )

  -- the law holds of every list of calls
  pub law_holds : LawOverRuns kind
  law_holds n marks means calls all = law_from calls all (state n marks ten_ten idle) means tt

-- the sizes of whole numbers add
pub whole_adding : Adding whole
whole_adding = record { limit = stop; adds = (λ a b h. omega arith, λ a b. refl); small = small }
  where
    size_in : Option Whole → ℕ
    size_in None = 0
    size_in (Some value) = value.size

    small : (byte : ℕ) (value : Whole) → whole.read byte ≡ Some value → whole.size value * 1024 ≤ stop
    small byte value is = let same : byte % 128 ≡ value.size = ap size_in is in omega arith
