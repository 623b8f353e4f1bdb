-- Filters read one by one, as the code has it.
use Rattle.std.proofs.Common.{◌≡◌, ℕ, ◌<◌, Bool, true, false, cond, not, ◌&&◌, leb, List, [], ◌∷◌, ◌++◌, length, is_some, Some, None, Ok, Err, Option, Result, sym, refl, ap, ◌∙◌, subst, arith, add-one}
use Rattle.std.specs.Option.{option_map}
use Rattle.std.specs.Bool.{then_some}
use Rattle.std.proofs.lemmas.Bool.{and_parts}
use Rattle.topics.specs.Names.{is_client_id}
use Rattle.topics.specs.Subscription.{Subscribed}
use Rattle.rows.specs.Text.{text_bytes, text_in}
use Rattle.sessions.specs.Session.{Session, after_client, decode, encode, from_client, filters_in, in_front, max_filters, named, stands, then_rest}
use Rattle.rows.specs.Write.{Written}
use Rattle.rows.specs.declared.write.Unwritten.{Unwritten}
use Rattle.rows.specs.declared.write.Unwritten.TheVariants.{Unlawful}
use Rattle.std.proofs.lemmas.List.{append-nil}
use Rattle.sessions.specs.declared.view.Filters.{Filters}
use Rattle.sessions.specs.declared.view.SessionRow.{SessionRow}
use Rattle.sessions.specs.View.{is_row, listed, row_of, session_of, Begins, filters_of}
use Rattle.sessions.proofs.Filters.{client_short, filters_back}

some_from : {A : Type 0} (o : Option A) → is_some o ≡ true → (x : A) × (o ≡ Some x)
some_from None e = let z : ◌≡◌ {A = ℕ} 0 1 = cc in absurd (omega arith)
some_from (Some x) e = (x, refl)

none_from : {A : Type 0} (o : Option A) → is_some o ≡ false → o ≡ None
none_from None e = refl
none_from (Some x) e = let z : ◌≡◌ {A = ℕ} 0 1 = cc in absurd (omega arith)

-- what is read is what is listed
pub filters_listed : (n : ℕ) (bs : List ℕ) → is_some (filters_in n bs) ≡ true → filters_in n bs ≡ Some (listed n bs)
filters_listed n bs e =
    let s = some_from (filters_in n bs) e in
    s.1 ∙ ap (λ l. Some l) (sym (filters_back n bs s.0 s.1).list)

front_some : (s : Subscribed) (ss : List Subscribed) (v : Bool) → not v ≡ is_some (cond {A = Option (List Subscribed)} v None (Some (s ∷ ss)))
front_some s ss true = refl
front_some s ss false = refl

-- one more subscription in front
pub whole_more : (v : Filters) (s : Subscribed) (w : Filters) (b : Bool) → Begins v s w → is_some (filters_in w.count w.part.now) ≡ true → b ≡ stands s.filter (filters_of w) → not b ≡ is_some (filters_in v.count v.part.now)
whole_more v s w b e f g =
    ap not g ∙ front_some s (filters_of w) (stands s.filter (filters_of w))
    ∙ sym (ap (λ o. is_some (in_front s o)) (filters_listed w.count w.part.now f))
    ∙ sym (ap (λ o. is_some (then_rest (filters_in w.count) o)) e.1)
    ∙ sym (ap (λ n. is_some (filters_in n v.part.now)) (e.0 ∙ add-one w.count))

row_by : (v : SessionRow) (a b c : Bool) → is_some (filters_in v.filters.count v.filters.part.now) ≡ c → option_map session_of (then_some (a && (b && c)) v) ≡ cond {A = Option Session} a (cond b (named v.client.now (filters_in v.filters.count v.filters.part.now)) None) None
row_by v true true true e = sym (ap (named v.client.now) (filters_listed v.filters.count v.filters.part.now e))
row_by v true true false e = sym (ap (named v.client.now) (none_from _ e))
row_by v true false c e = refl
row_by v false b c e = refl

-- the parts of a row make a session where they are lawful
pub row_read : (bs rest : List ℕ) (v : SessionRow) (b : Bool) (r : Option SessionRow) → r ≡ then_some b v → b ≡ is_row v → Some (v.client.now, rest) ≡ text_in bs → rest ≡ v.filters.count ∷ v.filters.part.now → option_map session_of r ≡ decode bs
unfolding decode
row_read bs rest v b r g h e f =
    ap (option_map session_of) (g ∙ ap (λ b. then_some b v) h)
    ∙ row_by v (is_client_id v.client.now) (leb v.filters.count max_filters) (is_some (filters_in v.filters.count v.filters.part.now)) refl
    ∙ ap (λ r. cond {A = Option Session} (is_client_id v.client.now) (after_client v.client.now r) None) (sym f)
    ∙ ap from_client e

-- ---- a view written again

pub row_bytes : (client : List ℕ) (n : ℕ) (bs : List ℕ) → is_some (filters_in n bs) ≡ true → encode (record { client = client; filters = listed n bs }) ≡ text_bytes client ++ n ∷ bs
row_bytes client n bs e =
    let b = filters_back n bs (listed n bs) (filters_listed n bs e) in
    λ i. text_bytes client ++ b.count i ∷ sym b.bytes i

row_is : (v : SessionRow) → is_row v ≡ true → row_of v ≡ Ok (text_bytes v.client.now ++ v.filters.count ∷ v.filters.part.now)
row_is v e =
    let p = and_parts (is_client_id v.client.now) _ e in
    let q = and_parts (leb v.filters.count max_filters) _ p.1 in
    ap (λ b. cond {A = Result (List ℕ) Unwritten} b (Ok (encode (session_of v))) (Err Unlawful)) e
    ∙ ap (λ l. Ok l) (row_bytes v.client.now v.filters.count v.filters.part.now q.1)

pub row_written : (v : SessionRow) (r : Result ℕ Unwritten) (d e : List ℕ) → true ≡ is_row v → Written (Ok (text_bytes v.client.now ++ v.filters.count ∷ (v.filters.part.now ++ []))) r d e → Written (row_of v) r d e
row_written v r d e ok w =
    subst (λ o. Written o r d e) (ap (λ l. Ok (text_bytes v.client.now ++ v.filters.count ∷ l)) (append-nil v.filters.part.now) ∙ sym (row_is v (sym ok))) w

pub client_fits : (v : SessionRow) → true ≡ is_row v → length v.client.now < 256
client_fits v ok =
    let p = and_parts (is_client_id v.client.now) _ (sym ok) in
    let h = client_short v.client.now p.0 in
    omega arith

pub listed_count : (n : ℕ) (bs : List ℕ) → is_some (filters_in n bs) ≡ true → length (listed n bs) ≡ n
listed_count n bs e = (filters_back n bs (listed n bs) (filters_listed n bs e)).count
