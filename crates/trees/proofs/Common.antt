-- The names of std and of the libraries of trees that several proofs cite, passed on from one place. Declares nothing.
pub use Rattle.std.proofs.Common.{All, AllPairs, Any, Bool, Bor, Contains, Equal, Err, Global, Greater, IfErr, IfOk, IfSome, IsCharBoundary, IsErr, IsTrue, IsUtf8, Less, List, MatchBool, MatchOption, None, Ok, OnOk, Option, Ordering, Result, Some, String, [], ap, append-nil, append_assoc, ap₂, arith, bytes_eq, chars, codes, cond, count_by, decimal, drop, encode_utf8, encode_utf8_all, eq-eqb, eqb, eqb-true, false, filter, flat_map, get_or, get_or-take, if◌then◌else◌, inl, inr, is_eq, is_ok, is_some, length, length-append, length-drop, length-set, length-take-le, lit<, ltb, ltb-true, map, map-id, min, nat_cmp, nat_lt, ne_eqb, not, option_and_then, option_map, refl, reverse, rules, set, slice_get, slice_index, slice_index_or, slice_range, string_bytes, subst, suc, sym, take, take-append-drop, take-take, take_all, true, true≢false, unwrap_or, zero, ℕ, ◌%◌, ◌&&◌, ◌*◌, ◌++◌, ◌+◌, ◌-◌, ◌/◌, ◌<◌, ◌==◌, ◌||◌, ◌↔◌, ◌∙◌, ◌∷◌, ◌≡◌, ◌≢◌, ◌≤◌, ◌⊎◌}
pub use Rattle.ptree.proofs.Config.FieldLists.{Contains-map}
pub use Rattle.ptree.proofs.Reading.Paths.{passing_all-push}
pub use Rattle.ptree.proofs.Trees.ItemTrees.{map_twice, tree_of_item}
pub use Rattle.ptree.proofs.Trees.OutlineItems.{item_line, item_text, left_more}
pub use Rattle.ptree.specs.Address.{Address, at}
pub use Rattle.ptree.specs.Config.{ConfigValue, config_of}
pub use Rattle.ptree.specs.Continuation.{AreFlags, HasContinuation, IsFollowedBy, first_lines, line_count}
pub use Rattle.ptree.specs.Drawing.{IsDrawing, look_by, own_at, with_inserted, written_look}
pub use Rattle.ptree.specs.File.{FileNode, json, toml}
pub use Rattle.ptree.specs.Graph.{LacksNode, edges_of, neighbors_of, numbers_of, weights_of}
pub use Rattle.ptree.specs.Loading.{effective_config}
pub use Rattle.ptree.specs.Outline.{Line, line, outline, outline_at}
pub use Rattle.ptree.specs.Pieces.{pieces_of}
pub use Rattle.ptree.specs.ReadItems.{read_text_of}
pub use Rattle.ptree.specs.Readable.{IsReadable, IsReadableWith}
pub use Rattle.ptree.specs.Spelled.{ArePassing, ArePiecesAt}
pub use Rattle.ptree.specs.Style.{StyleValue, end_codes, painted_text, start_codes, style_codes, style_of}
pub use Rattle.ptree.specs.Texts.{HasNoLineFeed, IsPrefixOf}
pub use Rattle.ptree.specs.Tree.{Forest, forest, tree_of}
pub use Rattle.ptree.specs.declared.graph.NodeIndex.{NodeIndex}
pub use Rattle.ptree.specs.declared.item.StringItem.{StringItem, out-StringItem}
pub use Rattle.ptree.specs.declared.print_config.Sources.{Sources}
pub use Rattle.ptree_trees.proofs.PartTexts.{begins, part_test}
pub use Rattle.ptree_trees.specs.Escape.{escape_char, escaped_text, is_hidden, mapped_forest, mapped_tree}
pub use Rattle.ptree_trees.specs.Indented.{AreLineTexts, IsIndentedForm, IsLineText, IsUnit, begins_blank, indent, indented_line, indented_lines, is_blank}
pub use Rattle.ptree_trees.specs.Parts.{begins_with, has_part}
pub use Rattle.ptree_trees.specs.Paths.{names, names_of}
pub use Rattle.ptree_trees.specs.Styled.{HasParts, styled_shape}
pub use Rattle.ptree_trees.specs.declared.indented.Form.{Form}
pub use Rattle.std.proofs.lemmas.Bool.{cases_eq, cases_lt, cond-false, cond-true, false_from_ne_true, false≢true, not-false, not-true, or_from, or_left, or_parts, or_right}
pub use Rattle.std.proofs.lemmas.Iterator.Consumers.{YieldsList-end, YieldsList-turn}
pub use Rattle.std.proofs.lemmas.Iterator.Splits.{YieldsList-from_lines, YieldsList-from_str_split}
pub use Rattle.std.proofs.lemmas.List.{append_cancel_left, at_drop_all, at_drop_more, drop_all, get_or_default, length-map, length_push, map-append, map_push, nil_from_length}
pub use Rattle.std.proofs.lemmas.List.Elements.{All-append, All-cons, All-contains, All-contains_itself, All-filter, All-get_or, All-head, All-map, All-more, All-nil, All-push, All-tail, All-weaker, Contains-append_left, Contains-append_right, Contains-push, Contains-push_cases, filter-append, filter_passes}
pub use Rattle.std.proofs.lemmas.List.Folds.{Any-from_list_any, concat-append, list_all-append, list_any_at}
pub use Rattle.std.proofs.lemmas.List.Sorted.{All-permutation, Contains-permutation, IsPermutation-reverse, IsPermutation-sym, searchable_from_sorted}
pub use Rattle.std.proofs.lemmas.Option.{slice_get-map, slice_get_read, slice_get_within, unwrap_or-slice_get}
pub use Rattle.std.proofs.lemmas.Result.{IfErr-weaker, IfOk-weaker}
pub use Rattle.std.proofs.lemmas.Slice.Eq.{bytes_eq-Decides}
pub use Rattle.std.proofs.lemmas.Str.{NoCharPasses-append, NoCharPasses-nil, cons_from_encodes, encode_ascii, encodes-append, encodes-chars}
pub use Rattle.std.proofs.lemmas.Str.Pattern.{NoCharPasses-char, contains_text, drop_at_char}
pub use Rattle.std.specs.Cmp.{IsTotalOrder, both_ways}
pub use Rattle.std.specs.Cmp.Lexicographic.{other_text, same_text, slice_cmp}
pub use Rattle.std.specs.Io.KnownBytes.{Appends}
pub use Rattle.std.specs.List.{AllByRecursion, AllZip, after_first, before_first, concat, list_all, list_any, position_or_len, slice_split}
pub use Rattle.std.specs.Prelude.{⊤}
pub use Rattle.std.specs.Str.{NoCharPasses}
pub use Rattle.std.specs.Str.Lines.{lines}
pub use Rattle.std.specs.Str.Pattern.{FindsCharSuffix, HasCharAt, RFindsChar}
