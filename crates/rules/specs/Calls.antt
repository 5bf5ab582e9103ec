-- Sections 3 and 4 of the rules, R1.2, R2.10 and R2.11: what build, weigh and translate answer, and what every lent buffer holds after.
use Rattle.std.specs.Prelude.{Bool, true, false, not, ◌&&◌, ◌||◌, List, [], ◌∷◌, ◌++◌, ℕ, ◌*◌, leb, eqb, length, drop, ℤ}
use Rattle.whole.specs.Lists.{nth, tab, join}
use Rattle.whole.specs.Matrix.{Matrix}
use Rattle.rules.specs.Limits.{sizes_in_range, modulus_in_range, entry_in_range, exponent_in_range, most_terms, room_h, room_v, room_w, room_weights, room_coefficients, room_exponents}
use Rattle.rules.specs.Search.{Found, none, found, first}
use Rattle.rules.specs.Problem.{Problem, s, N}
use Rattle.rules.specs.Stages.{Run, run, H, U, W}
use Rattle.rules.specs.Formulas.{weight, is_free, d, translated, Formula, terms, term, passes}

-- ---- the order of checks
-- a number of section 4, and the place of its first fault, if there is one
pub record Check : Type 0 where
  pub number : ℕ
  pub fault : Found

pub data Verdict : Type 0 where
  taken : Verdict
  refused : (number place : ℕ) → Verdict

-- R3.1: the first that finds a fault decides
abbrev pub verdict : List Check → Verdict
verdict [] = taken
verdict (c ∷ cs) = elim c.fault [ none ↦ verdict cs | found place ↦ refused c.number place ]

-- the place of a check with a single test
abbrev pub unless_at : (place : ℕ) → Bool → Found
unless_at place true = none
unless_at place false = found place

-- R3.3
abbrev pub unless : Bool → Found
unless = unless_at 0

-- the first number of a list that a test does not pass
unfoldable pub first_out : (ℤ → Bool) → List ℤ → Found
first_out good xs = first (λ i. not (good (nth xs i))) 0 (length xs)

-- R4.1 to R4.5. inputs: each lent input has the right length; outputs: each lent output has room enough
abbrev pub sizes_check : Problem → Check
sizes_check P = record { number = 1; fault = unless (sizes_in_range P.m P.n) }

abbrev pub inputs_check : (inputs : Bool) → Check
inputs_check inputs = record { number = 2; fault = unless inputs }

abbrev pub outputs_check : (outputs : Bool) → Check
outputs_check outputs = record { number = 3; fault = unless outputs }

abbrev pub moduli_check : Problem → Check
moduli_check P = record { number = 4; fault = first_out modulus_in_range P.moduli }

abbrev pub entries_check : Problem → Check
entries_check P = record { number = 5; fault = first_out entry_in_range P.matrix }

-- R4.6
abbrev pub exponents_check : List ℤ → Check
exponents_check es = record { number = 6; fault = first_out exponent_in_range es }

-- R4.7: the run's flag is up
abbrev pub range_check : Run → Check
range_check u = record { number = 7; fault = unless (not u.state.over) }

-- R4.8 and R4.9, in the order of R3.4
abbrev pub term_refused : Problem → Run → (v : ℕ → ℤ) → Bool
term_refused P u v = not (is_free P v) || passes P u v

abbrev pub term_number : Problem → (v : ℕ → ℤ) → ℕ
term_number P v = elim (is_free P v) [ true ↦ 9 | false ↦ 8 ]

abbrev pub terms_fault : Problem → Formula → Found → Check
terms_fault P f none = record { number = 0; fault = none }
terms_fault P f (found t) = record { number = term_number P (term P f t); fault = found t }

abbrev pub terms_check : Problem → Run → Formula → Check
terms_check P u f = terms_fault P f (first (λ t. term_refused P u (term P f t)) 0 (terms f))

-- ---- the lists of checks
abbrev pub checks_to5 : Problem → (inputs outputs : Bool) → List Check
checks_to5 P inputs outputs = sizes_check P ∷ inputs_check inputs ∷ outputs_check outputs ∷ moduli_check P ∷ entries_check P ∷ []

abbrev pub checks_to6 : Problem → (exponents : List ℤ) → (inputs outputs : Bool) → List Check
checks_to6 P es inputs outputs = checks_to5 P inputs outputs ++ exponents_check es ∷ []

-- R3.2
unfoldable pub build_verdict : Problem → (inputs outputs : Bool) → Verdict
build_verdict P inputs outputs = verdict (checks_to5 P inputs outputs ++ range_check (run P) ∷ [])

unfoldable pub weigh_verdict : Problem → (exponents : List ℤ) → (inputs outputs : Bool) → Verdict
weigh_verdict P es inputs outputs = verdict (checks_to6 P es inputs outputs)

unfoldable pub translate_verdict : Problem → Formula → (inputs outputs : Bool) → Verdict
translate_verdict P f inputs outputs = verdict (checks_to6 P f.exponents inputs outputs ++ range_check (run P) ∷ terms_check P (run P) f ∷ [])

-- ---- lengths: R4.2
abbrev pub problem_fits : Problem → Bool
problem_fits P = eqb (length P.matrix) (P.m * P.n) && eqb (length P.moduli) P.m

abbrev pub formula_fits : Problem → Formula → Bool
formula_fits P f = eqb (length f.exponents) (terms f * P.n) && leb (terms f) most_terms

-- ---- the contents
-- the entries of a matrix of m rows and n columns, row after row
abbrev pub grid : (m n : ℕ) → Matrix → List ℤ
grid m n A = join (tab m (λ r. tab n (λ c. A r c)))

-- R2.10: what each output holds at its front
unfoldable pub contents_h : Problem → List ℤ
contents_h P = grid P.m (N P) (H (run P))

unfoldable pub contents_v : Problem → List ℤ
contents_v P = grid (N P) (N P) (U (run P))

unfoldable pub contents_w : Problem → List ℤ
contents_w P = grid (N P) (N P) (W (run P))

unfoldable pub weights : Problem → (v : ℕ → ℤ) → List ℤ
weights P v = tab P.m (weight P v)

unfoldable pub translated_exponents : Problem → Formula → List ℤ
translated_exponents P f = grid (terms f) (d P (run P)) (λ t g. translated P (run P) (term P f t) g)

-- R2.10: the contents, and behind them what stood there
abbrev pub filled : {A : Type 0} → (contents lent : List A) → List A
filled contents lent = contents ++ drop (length contents) lent

-- ---- the three calls: the answer, and the lent outputs after
-- R2.11 where a call is taken, R3.5 where it is refused
pub record BuildAnswer : Type 0 where
  pub number : ℕ
  pub place : ℕ
  pub rank : ℕ
  pub moduli : ℕ
  pub steps : ℕ

abbrev pub build_reply : Problem → Verdict → BuildAnswer
build_reply P (refused number place) = record { number = number; place = place; rank = 0; moduli = 0; steps = 0 }
build_reply P taken = record { number = 0; place = 0; rank = (run P).rank; moduli = s P; steps = (run P).state.steps }

abbrev pub lent_after : {A : Type 0} → Verdict → (contents lent : List A) → List A
lent_after (refused number place) contents lent = lent
lent_after taken contents lent = filled contents lent

-- A is a number, or in Bench a byte
pub record Built (A : Type 0) : Type 0 where
  pub answer : BuildAnswer
  pub h : List A
  pub v : List A
  pub w : List A

abbrev pub built_in : {A : Type 0} (write : List ℤ → List A) → Problem → (h v w : List A) → Verdict → Built A
built_in write P h v w x = record {
  answer = build_reply P x;
  h = lent_after x (write (contents_h P)) h;
  v = lent_after x (write (contents_v P)) v;
  w = lent_after x (write (contents_w P)) w;
}

abbrev pub built : Problem → (h v w : List ℤ) → Verdict → Built ℤ
built = built_in (λ xs. xs)

unfoldable pub build_of : Problem → (h v w : List ℤ) → Built ℤ
build_of P h v w = built P h v w (build_verdict P (problem_fits P) (leb room_h (length h) && leb room_v (length v) && leb room_w (length w)))

pub record WeighAnswer : Type 0 where
  pub number : ℕ
  pub place : ℕ

abbrev pub weigh_reply : Verdict → WeighAnswer
weigh_reply (refused number place) = record { number = number; place = place }
weigh_reply taken = record { number = 0; place = 0 }

pub record Weighed : Type 0 where
  pub answer : WeighAnswer
  pub weights : List ℤ

abbrev pub weighed : Problem → (exponents out : List ℤ) → Verdict → Weighed
weighed P es out x = record { answer = weigh_reply x; weights = lent_after x (weights P (nth es)) out }

unfoldable pub weigh_of : Problem → (exponents out : List ℤ) → Weighed
weigh_of P es out = weighed P es out (weigh_verdict P es (problem_fits P && eqb (length es) P.n) (leb room_weights (length out)))

pub record TranslateAnswer : Type 0 where
  pub number : ℕ
  pub place : ℕ
  pub d : ℕ

abbrev pub translate_reply : Problem → Verdict → TranslateAnswer
translate_reply P (refused number place) = record { number = number; place = place; d = 0 }
translate_reply P taken = record { number = 0; place = 0; d = d P (run P) }

pub record Translated (A : Type 0) : Type 0 where
  pub answer : TranslateAnswer
  pub coefficients : List A
  pub exponents : List A

-- R8.6: the coefficients are those that were given
abbrev pub translated_in : {A : Type 0} (write : List ℤ → List A) → Problem → Formula → (coefficients exponents : List A) → Verdict → Translated A
translated_in write P f cs es x = record {
  answer = translate_reply P x;
  coefficients = lent_after x (write f.coefficients) cs;
  exponents = lent_after x (write (translated_exponents P f)) es;
}

abbrev pub translated_to : Problem → Formula → (coefficients exponents : List ℤ) → Verdict → Translated ℤ
translated_to = translated_in (λ xs. xs)

unfoldable pub translate_of : Problem → Formula → (coefficients exponents : List ℤ) → Translated ℤ
translate_of P f cs es =
    translated_to P f cs es
    (translate_verdict P f (problem_fits P && formula_fits P f) (leb room_coefficients (length cs) && leb room_exponents (length es)))
