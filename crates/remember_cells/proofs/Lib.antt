mod EqualKeys
