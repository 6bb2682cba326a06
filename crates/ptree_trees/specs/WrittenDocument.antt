-- Documents as trees, with floats and dates as their crates write them.
use Rattle.std.specs.Prelude.{◌≡◌, ℕ, Bool, true, false, if◌then◌else◌, List, [], ◌∷◌, ◌++◌, Option, Some, None, codes, decimal, nat_lt}
use Rattle.std.specs.List.{list_all}
use Rattle.std.specs.Fmt.{signed_decimal}
use Rattle.serde_json.specs.Data as j
use Rattle.serde_json.specs.Read.{read}
use Rattle.toml.specs.Data as t
use Rattle.toml.specs.Parse.{parse_document}
use Rattle.toml.specs.Text.{IsValueText}
use Rattle.ptree.specs.Tree.{Tree, tree_kids}
use Rattle.ptree.specs.declared.value.document.DocFormat.{DocFormat}
use Rattle.ptree.specs.declared.value.document.DocFormat.TheVariants.{Toml, Json}

-- the tree of a text under a label: a child of the label, or alone if the label is empty
abbrev pub IsTextTree : List ℕ → List ℕ → Tree → Type 0
IsTextTree [] text t = (t.text ≡ text) × (tree_kids t ≡ [])
IsTextTree (c ∷ cs) text t =
    (t.text ≡ c ∷ cs) × ((leaf : Tree) × (tree_kids t ≡ leaf ∷ []) × (leaf.text ≡ text) × (tree_kids leaf ≡ []))

-- the tree of a value under a label: the label over what is below a list, and else that of its text
abbrev pub IsTreeUnder : Bool → List ℕ → (List ℕ → Type 0) → (List Tree → Type 0) → Tree → Type 0
IsTreeUnder true label IsText AreBelow t = (t.text ≡ label) × AreBelow (tree_kids t)
IsTreeUnder false label IsText AreBelow t = (text : List ℕ) × IsText text × IsTextTree label text t

-- the text of a key and a simple value: `key = value`
abbrev pub IsEntryText : List ℕ → (List ℕ → Type 0) → List ℕ → Type 0
IsEntryText key IsText text = (value : List ℕ) × IsText value × (text ≡ key ++ (codes " = " ++ value))

-- a text holds no blank, and no byte below one
abbrev pub HasNoBlank : List ℕ → Type 0
HasNoBlank text = list_all (nat_lt 32) text ≡ true

-- a text is that of a JSON value: null and lists have none, and that of a float reads back as the
-- float, and has no blank
abbrev pub IsJsonText : j.Data → List ℕ → Type 0
IsJsonText j.null text = text ≡ []
IsJsonText (j.boolean b) text = text ≡ (if b then codes "true" else codes "false")
IsJsonText (j.number (j.unsigned n)) text = text ≡ decimal n
IsJsonText (j.number (j.negative z)) text = text ≡ signed_decimal z
IsJsonText (j.number (j.float x)) text = (read text ≡ Some (j.number (j.float x))) × HasNoBlank text
IsJsonText (j.string s) text = text ≡ s
IsJsonText _ text = text ≡ []

-- whether a value is a list or an object
abbrev pub is_json_list : j.Data → Bool
is_json_list (j.array ds) = true
is_json_list (j.object ms) = true
is_json_list _ = false

-- the text of a member of an object: its key, and after it the value if that is no list
abbrev pub IsJsonMemberText : List ℕ → j.Data → List ℕ → Type 0
IsJsonMemberText key (j.array ds) text = text ≡ key
IsJsonMemberText key (j.object ms) text = text ≡ key
IsJsonMemberText key d text = IsEntryText key (IsJsonText d) text

-- the trees of what is below a value: one for each element of a list, or for each member of an
-- object, in order
abbrev mutual
  pub AreJsonKids : j.Data → List Tree → Type 0
  AreJsonKids (j.array ds) ts = AreJsonElements ds ts
  AreJsonKids (j.object ms) ts = AreJsonMembers ms ts
  AreJsonKids _ ts = ts ≡ []

  pub AreJsonElements : j.Items → List Tree → Type 0
  AreJsonElements j.no_items ts = ts ≡ []
  AreJsonElements (j.item d ds) [] = ⊥
  AreJsonElements (j.item d ds) (t ∷ ts) = (IsJsonText d t.text × AreJsonKids d (tree_kids t)) × AreJsonElements ds ts

  pub AreJsonMembers : j.Members → List Tree → Type 0
  AreJsonMembers j.no_members ts = ts ≡ []
  AreJsonMembers (j.member k d ms) [] = ⊥
  AreJsonMembers (j.member k d ms) (t ∷ ts) = (IsJsonMemberText k d t.text × AreJsonKids d (tree_kids t)) × AreJsonMembers ms ts

-- the tree of a value under a label
abbrev pub IsJsonTree : List ℕ → j.Data → Tree → Type 0
IsJsonTree label d t = IsTreeUnder (is_json_list d) label (IsJsonText d) (AreJsonKids d) t

-- a text is that of a TOML value: lists have none, and that of a float or a date is as TOML writes
-- it, of a float without a blank
abbrev pub IsTomlText : t.Data → List ℕ → Type 0
IsTomlText (t.string s) text = text ≡ s
IsTomlText (t.integer z) text = text ≡ signed_decimal z
IsTomlText (t.float x) text = IsValueText false (t.float x) text × HasNoBlank text
IsTomlText (t.boolean b) text = text ≡ (if b then codes "true" else codes "false")
IsTomlText (t.datetime d) text = IsValueText false (t.datetime d) text
IsTomlText _ text = text ≡ []

-- whether a value is a list or a table
abbrev pub is_toml_list : t.Data → Bool
is_toml_list (t.array ds) = true
is_toml_list (t.table ms) = true
is_toml_list _ = false

-- the text of a member of a table: its key, and after it the value if that is no list
abbrev pub IsTomlMemberText : List ℕ → t.Data → List ℕ → Type 0
IsTomlMemberText key (t.array ds) text = text ≡ key
IsTomlMemberText key (t.table ms) text = text ≡ key
IsTomlMemberText key d text = IsEntryText key (IsTomlText d) text

-- the trees of what is below a value: one for each element of a list, or for each member of a
-- table, in order
abbrev mutual
  pub AreTomlKids : t.Data → List Tree → Type 0
  AreTomlKids (t.array ds) ts = AreTomlElements ds ts
  AreTomlKids (t.table ms) ts = AreTomlMembers ms ts
  AreTomlKids _ ts = ts ≡ []

  pub AreTomlElements : t.Items → List Tree → Type 0
  AreTomlElements t.no_items ts = ts ≡ []
  AreTomlElements (t.item d ds) [] = ⊥
  AreTomlElements (t.item d ds) (t ∷ ts) = (IsTomlText d t.text × AreTomlKids d (tree_kids t)) × AreTomlElements ds ts

  pub AreTomlMembers : t.Members → List Tree → Type 0
  AreTomlMembers t.no_members ts = ts ≡ []
  AreTomlMembers (t.member k d ms) [] = ⊥
  AreTomlMembers (t.member k d ms) (t ∷ ts) = (IsTomlMemberText k d t.text × AreTomlKids d (tree_kids t)) × AreTomlMembers ms ts

-- the tree of a value under a label
abbrev pub IsTomlTree : List ℕ → t.Data → Tree → Type 0
IsTomlTree label d t = IsTreeUnder (is_toml_list d) label (IsTomlText d) (AreTomlKids d) t

-- the tree of a text's document under a label, and none if the text is no document
abbrev pub IsDocumentTree : DocFormat → List ℕ → List ℕ → Option Tree → Type 0
IsDocumentTree Json text label None = read text ≡ None
IsDocumentTree Json text label (Some tree) = (d : j.Data) × (read text ≡ Some d) × IsJsonTree label d tree
IsDocumentTree Toml text label None = parse_document text ≡ None
IsDocumentTree Toml text label (Some tree) = (ms : t.Members) × (parse_document text ≡ Some ms) × IsTomlTree label (t.table ms) tree
