-- The first filter of a part, and the filters behind it.
use Rattle.std.proofs.Common.{◌≡◌, ℕ, zero, suc, ◌+◌, ◌-◌, ◌^◌, ◌<◌, ◌≤◌, Bool, true, false, cond, ltb, List, [], ◌∷◌, ◌++◌, length, get_or, take, drop, Some, None, Ok, Err, Result, Fits, w8, sym, refl, ap, ◌∙◌, append_assoc, subst, arith, length-append}
use Rattle.std.proofs.lemmas.List.{append-nil, drop_at, take_at, take_rest}
use Rattle.std.proofs.lemmas.Bool.{and_from, and_parts, cond-true, lt-ltb, ltb-true}
use Rattle.packets.specs.declared.packet.Filters.{Filters}
use Rattle.packets.specs.declared.packet.ReadError.{ReadError}
use Rattle.packets.specs.Filters.{Entry, Found, entries_of, filter_in, first_filters, heading, nth}
use Rattle.packets.specs.Bytes.{entries_bytes, entry_bytes, lawful_entries, qos_bytes}
use Rattle.writer.specs.Filters.{Follows, Leads, Spans}
use Rattle.writer.specs.Laws.{Bytes}
use Rattle.writer.proofs.Accepted.{filter_ok, ok_same}
use Rattle.writer.proofs.Trips.{found_at, one_entry}

pub are_bytes : (xs : List ℕ) → ((i : ℕ) → Fits w8 (get_or xs i 0)) → Bytes xs
are_bytes [] h = tt
are_bytes (x ∷ xs) h = (let k = h 0 in omega arith, are_bytes xs (λ i. h (suc i)))

pub no_first : (es : List Entry) → nth 0 es ≡ None → es ≡ []
no_first [] h = refl
no_first (e ∷ es) h = grind arith

entries_small : (f : Filters) → f.place + length f.part.now < 2 ^ 64 → entries_of f ≡ first_filters f.with_qos f.count f.part.now f.place
entries_small f h = cond-true _ _ _ (lt-ltb (f.place + length f.part.now) (2 ^ 64) h)

-- the first filter of a part, and those behind it
pub record First (f : Filters) (e : Entry) : Type 0 where
  pub fits : f.place + length f.part.now < 2 ^ 64
  pub some : 0 < f.count
  pub leads : Leads f.part.now e
  pub whole : (g : Filters) → f.part.now ≡ entry_bytes e ++ g.part.now → g.place ≡ f.place + length (entry_bytes e) → g.count + 1 ≡ f.count → g.with_qos ≡ f.with_qos → entries_of f ≡ e ∷ entries_of g
  pub fitting : lawful_entries f.with_qos (e ∷ []) ≡ true

found_by : (f : Filters) (e : Entry) (n : ℕ) (r : Result Found ReadError) → f.place + length f.part.now < 2 ^ 64 → f.count ≡ suc n → filter_in f.with_qos f.part.now f.place ≡ r
    → nth 0 (heading (first_filters f.with_qos n) r) ≡ Some e → First f e
unfolding found_at
found_by f e n (Err x) fits many is h = grind arith
found_by f e n (Ok x) fits many is h =
    let k = filter_ok f.with_qos f.part.now f.place x is in
    let entry : x.entry ≡ e = cc in
    subst (λ y. First f y) entry (record {
      fits = fits;
      some = omega arith;
      leads = (f.with_qos, f.place, x, is, refl);
      whole = λ g bytes place count kind.
          let read = ap (λ l. filter_in f.with_qos l f.place) bytes ∙ one_entry f.with_qos x.entry.filter x.entry.qos g.part.now f.place k.filter k.qos in
          let same = ok_same _ _ (sym is ∙ read) in
          let m : n ≡ g.count = omega arith in
          let on : x.next ≡ g.place = ap (λ y. y.next) same ∙ sym place in
          let rest : x.rest ≡ g.part.now = ap (λ y. y.rest) same in
          let long = ap length bytes ∙ length-append (entry_bytes x.entry) g.part.now in
          let small : g.place + length g.part.now < 2 ^ 64 = omega (arith, long, place) in
          entries_small f fits ∙ ap (λ i. first_filters f.with_qos i f.part.now f.place) many ∙ ap (λ r. heading (first_filters f.with_qos n) r) is
          ∙ (λ i. x.entry ∷ first_filters (sym kind i) (m i) (rest i) (on i)) ∙ ap (λ es. x.entry ∷ es) (sym (entries_small g small));
      fitting = and_from _ _ (and_from _ _ k.filter k.qos) refl;
    })

first_by : (f : Filters) (e : Entry) (n : ℕ) (v : Bool) → ltb (f.place + length f.part.now) (2 ^ 64) ≡ v → f.count ≡ n → nth 0 (cond v (first_filters f.with_qos n f.part.now f.place) []) ≡ Some e → First f e
first_by f e n false small many h = grind arith
first_by f e zero true small many h = grind arith
first_by f e (suc n) true small many h = found_by f e n (filter_in f.with_qos f.part.now f.place) (ltb-true _ _ small) many refl h

pub first : (f : Filters) (e : Entry) → nth 0 (entries_of f) ≡ Some e → First f e
first f e h = first_by f e f.count (ltb (f.place + length f.part.now) (2 ^ 64)) refl refl h

-- the bytes that lead, as wide as the code has them
pub record Led (bs : List ℕ) (e : Entry) (w : ℕ) : Type 0 where
  pub room : w ≤ length bs
  pub bytes : ((i : ℕ) → Fits w8 (get_or bs i 0)) → bs ≡ entry_bytes e ++ take (length bs - w) (drop w bs)

pub led : (bs : List ℕ) (e : Entry) (k : ℕ) → Leads bs e → k ≡ length (qos_bytes e.qos) → Led bs e (2 + length e.filter + k)
led bs e k (graded, at, x, is, same) ek =
    let f = filter_ok graded bs at x is in
    let w = 2 + length e.filter + k in
    let wide : w ≡ length (entry_bytes e) = simp length-append (omega arith) in
    let long : length bs ≡ length (entry_bytes e) + length x.rest = f.long ∙ ap (λ y. length (entry_bytes y) + length x.rest) same in
    record {
      room = omega (arith, wide, long);
      bytes = λ fits.
          let whole = f.whole (are_bytes bs fits) ∙ ap (λ y. entry_bytes y ++ x.rest) same in
          whole ∙ ap (λ l. entry_bytes e ++ l) (sym (take_rest bs w ∙ ap (λ l. drop w l) whole ∙ drop_at (entry_bytes e) x.rest w (sym wide)));
    }

pub behind : (f : Filters) (e : Entry) → First f e → (g : Filters) → f.part.now ≡ entry_bytes e ++ g.part.now → g.place ≡ f.place + (length f.part.now - length g.part.now) → g.count ≡ f.count - 1 → g.with_qos ≡ f.with_qos
    → (e : Entry) × Follows f (e ∷ []) g
behind f e s g bytes place count kind =
    let long = ap length bytes ∙ length-append (entry_bytes e) g.part.now in
    let some = s.some in
    let on : g.place ≡ f.place + length (entry_bytes e) = omega (arith, long, place) in
    let many : g.count + 1 ≡ f.count = omega arith in (
      e,
      record {
        whole = s.whole g bytes on many kind;
        bytes = bytes ∙ ap (λ l. l ++ g.part.now) (sym (append-nil (entry_bytes e)));
        many = omega arith;
        kind = kind;
        fitting = s.fitting;
      },
    )

entries_append : (es fs : List Entry) → entries_bytes (es ++ fs) ≡ entries_bytes es ++ entries_bytes fs
entries_append [] fs = refl
entries_append (e ∷ es) fs = ap (λ l. entry_bytes e ++ l) (entries_append es fs) ∙ sym (append_assoc (entry_bytes e) (entries_bytes es) (entries_bytes fs))

lawful_append : (g : Bool) (es fs : List Entry) → lawful_entries g es ≡ true → lawful_entries g fs ≡ true → lawful_entries g (es ++ fs) ≡ true
lawful_append g [] fs h k = k
lawful_append g (e ∷ es) fs h k = let p = and_parts _ (lawful_entries g es) h in and_from _ (lawful_entries g (es ++ fs)) p.0 (lawful_append g es fs p.1 k)

-- what follows what follows
pub follows_on : (f g h : Filters) (es fs : List Entry) → Follows f es g → Follows g fs h → Follows f (es ++ fs) h
follows_on f g h es fs a b =
    record {
      whole = a.whole ∙ ap (λ l. es ++ l) b.whole ∙ sym (append_assoc es fs (entries_of h));
      bytes = a.bytes ∙ ap (λ l. entries_bytes es ++ l) b.bytes ∙ sym (append_assoc (entries_bytes es) (entries_bytes fs) h.part.now) ∙ ap (λ l. l ++ h.part.now) (sym (entries_append es fs));
      many = let l = length-append es fs in let m = a.many in let n = b.many in omega arith;
      kind = b.kind ∙ a.kind;
      fitting = lawful_append f.with_qos es fs a.fitting (subst (λ k. lawful_entries k fs ≡ true) a.kind b.fitting);
    }

-- the filters of a part, where no other follows
pub spans : (f g : Filters) (es : List Entry) {count : ℕ} {bytes : List ℕ} → Follows f es g → entries_of g ≡ [] → count ≡ f.count - g.count → bytes ≡ take (length f.part.now - length g.part.now - 0) (drop 0 f.part.now)
    → Spans (entries_of f) f.with_qos count bytes
spans f g es a none ec eb =
    let is : es ≡ entries_of f = sym (a.whole ∙ ap (λ l. es ++ l) none ∙ append-nil es) in
    let long = ap length a.bytes ∙ length-append (entries_bytes es) g.part.now in
    let used : length f.part.now - length g.part.now - 0 ≡ length (entries_bytes es) = omega arith in
    record {
      many = ap length (sym is) ∙ (let m = a.many in omega arith);
      same = eb ∙ (λ i. take (used i) (a.bytes i)) ∙ take_at (entries_bytes es) g.part.now (length (entries_bytes es)) refl ∙ ap entries_bytes is;
      fitting = ap (lawful_entries f.with_qos) (sym is) ∙ a.fitting;
    }
