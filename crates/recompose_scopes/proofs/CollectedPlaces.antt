-- The places of the scopes of some objects.
use Rattle.std.proofs.Common.{◌≡◌, ◌⊎◌, inl, inr, ◌==◌, ℕ, true, false, List, [], ◌∷◌, get_or, Option, Some, None, refl, ap, sym, ◌∙◌, subst, eq-eqb}
use Rattle.std.proofs.lemmas.Bool.{eqb-true}
use Rattle.std.proofs.lemmas.Option.{same_Some}
use Rattle.rt_values.specs.Maps.{contains}
use Rattle.read_links.specs.LinkLists.{scopes_in}
use Rattle.recompose_scopes.specs.Scopes.{ScopeLists, reads_at, AreScopesOf}
use Rattle.recompose_scopes.specs.Owed.{IsOwedList}
use Rattle.recompose_scopes.specs.Building.{with_place, with_places, with_owed}
use Rattle.recompose_scopes.proofs.Members.{or_left, or_right, either, kept_by_append, appended, in_appended, common_of, common_meets}

-- One of the scopes has the place i.
pub record IsPlaceOf (anchors : List (Option ℕ)) (scopes : List ℕ) (i : ℕ) : Type 0 where
  pub scope : ℕ
  pub listed : contains scope scopes ≡ true
  pub anchored : get_or anchors scope None ≡ Some i

kept_by_place : (o : Option ℕ) (ps : List ℕ) (i : ℕ) → contains i ps ≡ true → contains i (with_place o ps) ≡ true
kept_by_place None ps i has = has
kept_by_place (Some j) ps i has = kept_by_append i ps (j ∷ []) has

has_place : (o : Option ℕ) (ps : List ℕ) (i : ℕ) → o ≡ Some i → contains i (with_place o ps) ≡ true
has_place o ps i e = subst (λ p. contains i (with_place p ps) ≡ true) (sym e) (appended i ps)

only_place : (o : Option ℕ) (ps : List ℕ) (i : ℕ) → contains i (with_place o ps) ≡ true
    → (contains i ps ≡ true) ⊎ (o ≡ Some i)
only_place None ps i has = inl has
only_place (Some j) ps i has = elim (in_appended i j ps has) [ inl old ↦ inl old | inr new ↦ inr (ap Some new) ]

kept_by_places : (anchors : List (Option ℕ)) (scopes ps : List ℕ) (i : ℕ) → contains i ps ≡ true
    → contains i (with_places anchors scopes ps) ≡ true
kept_by_places anchors [] ps i has = has
kept_by_places anchors (s ∷ scopes) ps i has =
    kept_by_places anchors scopes (with_place (get_or anchors s None) ps) i
    (kept_by_place (get_or anchors s None) ps i has)

has_places : (anchors : List (Option ℕ)) (scopes ps : List ℕ) (i s : ℕ) → contains s scopes ≡ true
    → get_or anchors s None ≡ Some i → contains i (with_places anchors scopes ps) ≡ true
has_places anchors [] ps i s listed anchored = absurd cc
has_places anchors (t ∷ scopes) ps i s listed anchored = elim (either (t == s) (contains s scopes) listed) [
  | inl same ↦ kept_by_places anchors scopes (with_place (get_or anchors t None) ps) i
      (has_place (get_or anchors t None) ps i (ap (λ u. get_or anchors u None) (eqb-true t s same) ∙ anchored))
  | inr later ↦ has_places anchors scopes (with_place (get_or anchors t None) ps) i s later anchored
]

only_places : (anchors : List (Option ℕ)) (scopes ps : List ℕ) (i : ℕ)
    → contains i (with_places anchors scopes ps) ≡ true → (contains i ps ≡ true) ⊎ IsPlaceOf anchors scopes i
only_places anchors [] ps i has = inl has
only_places anchors (s ∷ scopes) ps i has =
    elim (only_places anchors scopes (with_place (get_or anchors s None) ps) i has) [
      | inl old ↦ elim (only_place (get_or anchors s None) ps i old) [
        | inl older ↦ inl older
        | inr new ↦ inr (record {
          scope = s;
          listed = or_left (s == s) (contains s scopes) (eq-eqb s s refl);
          anchored = new;
        })
      ]
      | inr later ↦ inr (record {
        scope = later.scope;
        listed = or_right (s == later.scope) (contains later.scope scopes) later.listed;
        anchored = later.anchored;
      })
    ]

-- One of the objects has a scope with the place i.
record IsOwedPlace (l : ScopeLists) (objects : List ℕ) (i : ℕ) : Type 0 where
  object : ℕ
  listed : contains object objects ≡ true
  place : IsPlaceOf l.anchors (scopes_in object l.links) i

kept_by_owed : (l : ScopeLists) (objects ps : List ℕ) (i : ℕ) → contains i ps ≡ true
    → contains i (with_owed l objects ps) ≡ true
kept_by_owed l [] ps i has = has
kept_by_owed l (x ∷ objects) ps i has =
    kept_by_owed l objects (with_places l.anchors (scopes_in x l.links) ps) i
    (kept_by_places l.anchors (scopes_in x l.links) ps i has)

has_owed : (l : ScopeLists) (objects ps : List ℕ) (i s x : ℕ) → contains x objects ≡ true
    → contains s (scopes_in x l.links) ≡ true → get_or l.anchors s None ≡ Some i
    → contains i (with_owed l objects ps) ≡ true
has_owed l [] ps i s x listed linked anchored = absurd cc
has_owed l (y ∷ objects) ps i s x listed linked anchored = elim (either (y == x) (contains x objects) listed) [
  | inl same ↦ kept_by_owed l objects (with_places l.anchors (scopes_in y l.links) ps) i
      (has_places l.anchors (scopes_in y l.links) ps i s
      (ap (λ z. contains s (scopes_in z l.links)) (eqb-true y x same) ∙ linked) anchored)
  | inr later ↦ has_owed l objects (with_places l.anchors (scopes_in y l.links) ps) i s x later linked anchored
]

only_owed : (l : ScopeLists) (objects ps : List ℕ) (i : ℕ) → contains i (with_owed l objects ps) ≡ true
    → (contains i ps ≡ true) ⊎ IsOwedPlace l objects i
only_owed l [] ps i has = inl has
only_owed l (x ∷ objects) ps i has =
    elim (only_owed l objects (with_places l.anchors (scopes_in x l.links) ps) i has) [
      | inl old ↦ elim (only_places l.anchors (scopes_in x l.links) ps i old) [
        | inl older ↦ inl older
        | inr new ↦ inr (record {
          object = x;
          listed = or_left (x == x) (contains x objects) (eq-eqb x x refl);
          place = new;
        })
      ]
      | inr later ↦ inr (record {
        object = later.object;
        listed = or_right (x == later.object) (contains later.object objects) later.listed;
        place = later.place;
      })
    ]

-- The collected places, in any order, are those of the owed calls.
pub owed_list : (l : ScopeLists) (objects places : List ℕ)
    → ((i : ℕ) → contains i places ≡ contains i (with_owed l objects []))
    → (reads : List (List ℕ)) → AreScopesOf reads l → IsOwedList reads objects places
owed_list l objects places same reads h = record {
  all = λ i met.
      let both = common_of (reads_at reads i) objects met in
      let has = h.all i both.member both.left in
      same i ∙ has_owed l objects [] i has.scope both.member both.right has.linked has.anchored;
  only = λ i has. elim (only_owed l objects [] i (sym (same i) ∙ has)) [
    | inl never ↦ absurd cc
    | inr owed ↦
        let reader = h.only owed.place.scope owed.object owed.place.listed in
        let is = same_Some reader.index i (sym reader.anchored ∙ owed.place.anchored) in
        common_meets owed.object (reads_at reads i) objects
        (ap (λ k. contains owed.object (reads_at reads k)) (sym is) ∙ reader.read) owed.listed
  ];
}

-- Without scopes no call reads anything, so none is owed.
pub none_owed : (l : ScopeLists) (places : List ℕ) (reads : List (List ℕ)) (objects : List ℕ) → l.anchors ≡ []
    → ((i : ℕ) → contains i places ≡ false) → AreScopesOf reads l → IsOwedList reads objects places
none_owed l places reads objects none empty h = record {
  all = λ i met.
      let both = common_of (reads_at reads i) objects met in
      let has = h.all i both.member both.left in
      let missing : None ≡ Some i =
      sym (ap (λ (as_ : List (Option ℕ)). get_or as_ has.scope None) none) ∙ has.anchored in
      absurd cc;
  only = λ i has. let no = empty i in absurd cc;
}
