-- A run of pushes and pops is a run of a list queue.
use Rattle.std.proofs.Common.{◌≡◌, ℕ, ◌+◌, ◌<◌, List, [], ◌∷◌, ◌++◌, length, get_or, take, drop, set, Some, None, Ok, Err, sym, refl, ap, ◌∙◌, subst, append_assoc, append-nil, arith, length-set, drop-set-lt}
use Rattle.std.proofs.lemmas.List.{flat_map_more, length_push, take_more, take_more_set, drop-drop}
use Rattle.std.proofs.lemmas.Bool.Decides.{nat_tests}
use Rattle.ring.specs.declared.Ring.{Ring}
use Rattle.ring.specs.declared.run.Step.{Step}
use Rattle.ring.specs.declared.run.Step.TheVariants.{Push, Pop}
use Rattle.ring.specs.declared.run.Answer.{Answer}
use Rattle.ring.specs.declared.run.Answer.TheVariants.{OfPush, OfPop}
use Rattle.ring.specs.Ring.{waiting, place}
use Rattle.ring.specs.Run.{Stepped, Runs, start, next, answer_of, held_after, answers_of, held_after_all, entering, leaving, entered, left, Queues}

-- one step
pub record StepQueues {T : Type 0} (n : ℕ) (ws : List T) (s : Step T) (a : Answer T) (ws' : List T) : Type 0 where
  pub answer : a ≡ answer_of n ws s
  pub after : ws' ≡ held_after n ws s
  pub order : leaving a ++ ws' ≡ ws ++ entering s a

push_taken : {T : Type 0} (n : ℕ) (ws ws' : List T) (x : T) → length ws < n → ws' ≡ ws ++ x ∷ [] → StepQueues n ws (Push x) (OfPush (Ok tt)) ws'
push_taken n ws ws' x h e = record { answer = grind (arith, nat_tests); after = grind (arith, nat_tests); order = e }

push_full : {T : Type 0} (n : ℕ) (ws ws' : List T) (x y : T) → length ws ≡ n → y ≡ x → ws' ≡ ws → StepQueues n ws (Push x) (OfPush (Err y)) ws'
push_full n ws ws' x y h b e = record { answer = grind (arith, nat_tests); after = grind (arith, nat_tests); order = e ∙ sym (append-nil ws) }

pop_some : {T : Type 0} (n : ℕ) (ws ws' : List T) (x : T) → ws ≡ x ∷ ws' → StepQueues n ws Pop (OfPop (Some x)) ws'
pop_some n ws ws' x e = record { answer = grind arith; after = grind arith; order = sym e ∙ sym (append-nil ws) }

pop_none : {T : Type 0} (n : ℕ) (ws ws' : List T) → ws ≡ [] → ws' ≡ ws → StepQueues n ws Pop (OfPop None) ws'
pop_none n ws ws' e f = record { answer = grind arith; after = grind arith; order = f ∙ sym (append-nil ws) }

module _ {T : Type 0} where
  -- a step answers as the list queue does, and the memory keeps its length
  pub stepped_queues : (r : Ring) (xs : List T) (s : Step T) (a : Answer T) (r' : Ring) (xs' : List T)
      → Stepped r xs s a r' xs' → StepQueues (length xs) (waiting r xs) s a (waiting r' xs')
  stepped_queues r xs (Push x) (OfPush (Ok u)) r' xs' p = push_taken (length xs) (waiting r xs) (waiting r' xs') x p.room p.after
  stepped_queues r xs (Push x) (OfPush (Err y)) r' xs' p =
      push_full (length xs) (waiting r xs) (waiting r' xs') x y p.full p.back (ap (λ s. waiting s xs') p.ring ∙ ap (waiting r) p.memory)
  stepped_queues r xs (Push x) (OfPop o) r' xs' p = absurd p
  stepped_queues r xs Pop (OfPush a) r' xs' p = absurd p
  stepped_queues r xs Pop (OfPop (Some x)) r' xs' p =
      pop_some (length xs) (waiting r xs) (waiting r' xs') x (p.0.after ∙ ap (λ ys. x ∷ waiting r' ys) (sym p.1))
  stepped_queues r xs Pop (OfPop None) r' xs' p =
      pop_none (length xs) (waiting r xs) (waiting r' xs') p.0.0 (ap (λ s. waiting s xs') p.0.1 ∙ ap (waiting r) p.1)

  pub stepped_length : (r : Ring) (xs : List T) (s : Step T) (a : Answer T) (r' : Ring) (xs' : List T) → Stepped r xs s a r' xs' → length xs' ≡ length xs
  stepped_length r xs (Push x) (OfPush (Ok u)) r' xs' p = ap length p.memory ∙ length-set xs (place r (length xs) (length (waiting r xs))) x
  stepped_length r xs (Push x) (OfPush (Err y)) r' xs' p = ap length p.memory
  stepped_length r xs (Push x) (OfPop o) r' xs' p = absurd p
  stepped_length r xs Pop (OfPush a) r' xs' p = absurd p
  stepped_length r xs Pop (OfPop o) r' xs' p = ap length p.1

  -- one step more at the end of a run
  answers_more : (n : ℕ) (ws : List T) (ss : List (Step T)) (s : Step T) → answers_of n ws (ss ++ s ∷ []) ≡ answers_of n ws ss ++ answer_of n (held_after_all n ws ss) s ∷ []
  answers_more n ws [] s = refl
  answers_more n ws (t ∷ ss) s = ap (λ bs. answer_of n ws t ∷ bs) (answers_more n (held_after n ws t) ss s)

  held_more : (n : ℕ) (ws : List T) (ss : List (Step T)) (s : Step T) → held_after_all n ws (ss ++ s ∷ []) ≡ held_after n (held_after_all n ws ss) s
  held_more n ws [] s = refl
  held_more n ws (t ∷ ss) s = held_more n (held_after n ws t) ss s

  entered_more : (ss : List (Step T)) (bs : List (Answer T)) (s : Step T) (a : Answer T) → length ss ≡ length bs → entered (ss ++ s ∷ []) (bs ++ a ∷ []) ≡ entered ss bs ++ entering s a
  entered_more [] [] s a h = append-nil (entering s a)
  entered_more [] (b ∷ bs) s a h = absurd (omega arith)
  entered_more (t ∷ ss) [] s a h = absurd (omega arith)
  entered_more (t ∷ ss) (b ∷ bs) s a h =
      ap (λ zs. entering t b ++ zs) (entered_more ss bs s a (omega arith)) ∙ sym (append_assoc (entering t b) (entered ss bs) (entering s a))

  queues_more : (n : ℕ) (ws : List T) (ss : List (Step T)) (bs : List (Answer T)) (ws₁ ws₂ : List T) (s : Step T) (a : Answer T)
      → length ss ≡ length bs → Queues n ws ss bs ws₁ → StepQueues n ws₁ s a ws₂ → Queues n ws (ss ++ s ∷ []) (bs ++ a ∷ []) ws₂
  queues_more n ws ss bs ws₁ ws₂ s a h q t =
      record {
        answers =
            ap (λ cs. cs ++ a ∷ []) q.answers
            ∙ ap (λ b. answers_of n ws ss ++ b ∷ []) (t.answer ∙ ap (λ vs. answer_of n vs s) q.after)
            ∙ sym (answers_more n ws ss s);
        after = t.after ∙ ap (λ vs. held_after n vs s) q.after ∙ sym (held_more n ws ss s);
        order =
            ap (λ zs. zs ++ ws₂) (sym (flat_map_more leaving [] bs a))
            ∙ append_assoc (left bs) (leaving a) ws₂
            ∙ ap (λ zs. left bs ++ zs) t.order
            ∙ sym (append_assoc (left bs) ws₁ (entering s a))
            ∙ ap (λ zs. zs ++ entering s a) q.order
            ∙ append_assoc ws (entered ss bs) (entering s a)
            ∙ ap (λ zs. ws ++ zs) (sym (entered_more ss bs s a h));
      }

  -- any run
  pub runs_level : {r : Ring} {xs : List T} {ss : List (Step T)} {bs : List (Answer T)} {r' : Ring} {xs' : List T}
      → Runs r xs ss bs r' xs' → (length ss ≡ length bs) × (length xs' ≡ length xs)
  runs_level start = (refl, refl)
  runs_level (next {ss} {bs} {r₁} {r₂} {xs₁} {xs₂} s a run t) =
      let l = runs_level run in
      (length_push ss s ∙ ap (λ k. k + 1) l.0 ∙ sym (length_push bs a), stepped_length r₁ xs₁ s a r₂ xs₂ t ∙ l.1)

  pub runs_queues : {r : Ring} {xs : List T} {ss : List (Step T)} {bs : List (Answer T)} {r' : Ring} {xs' : List T}
      → Runs r xs ss bs r' xs' → Queues (length xs) (waiting r xs) ss bs (waiting r' xs')
  runs_queues {r} {xs} start = record { answers = refl; after = refl; order = sym (append-nil (waiting r xs)) }
  runs_queues {r} {xs} (next {ss} {bs} {r₁} {r₂} {xs₁} {xs₂} s a run t) =
      let l = runs_level run in
      let P : ℕ → Type 0 = λ n. StepQueues n (waiting r₁ xs₁) s a (waiting r₂ xs₂) in
      queues_more (length xs) (waiting r xs) ss bs (waiting r₁ xs₁) (waiting r₂ xs₂) s a l.0 (runs_queues run) (subst P l.1 (stepped_queues r₁ xs₁ s a r₂ xs₂ t))

  -- a loop's turn: the i-th step is performed, and its answer written to the i-th place
  pub runs_more : (r : Ring) (xs : List T) (ss : List (Step T)) (bs : List (Answer T)) (i : ℕ) (r₁ r₂ : Ring) (xs₁ xs₂ : List T) (s : Step T) (a : Answer T)
      → i < length ss → i < length bs → s ≡ get_or ss i s → Runs r xs (take i ss) (take i bs) r₁ xs₁ → Stepped r₁ xs₁ s a r₂ xs₂
      → Runs r xs (take (i + 1) ss) (take (i + 1) (set bs i a)) r₂ xs₂
  runs_more r xs ss bs i r₁ r₂ xs₁ xs₂ s a in-s in_b read run t =
      let front : take i ss ++ s ∷ [] ≡ take (i + 1) ss = ap (λ z. take i ss ++ z ∷ []) read ∙ sym (take_more ss i s in-s) in
      let back : take i bs ++ a ∷ [] ≡ take (i + 1) (set bs i a) = sym (take_more_set bs i a in_b) in
      let P : List (Step T) → Type 0 = λ us. Runs r xs us (take i bs ++ a ∷ []) r₂ xs₂ in
      let Q : List (Answer T) → Type 0 = λ us. Runs r xs (take (i + 1) ss) us r₂ xs₂ in
      subst Q back (subst P front (next s a run t))

  pub rest_more : (bs ds : List (Answer T)) (i : ℕ) (a : Answer T) → drop i bs ≡ drop i ds → drop (i + 1) (set bs i a) ≡ drop (i + 1) ds
  rest_more bs ds i a e =
      drop-set-lt (i + 1) bs i a (omega arith)
      ∙ sym (drop-drop 1 i bs)
      ∙ ap (drop 1) e
      ∙ drop-drop 1 i ds
